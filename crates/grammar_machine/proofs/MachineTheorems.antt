-- The theorems on the tables: acceptance, soundness, one tree, no late fault, no early fault.
use Rattle.std.proofs.Common.{◌≡◌, ℕ, Bool, true, false, not, List, [], ◌∷◌, ◌++◌, refl, sym, ◌∙◌, subst, append-nil}
use Rattle.std.proofs.Common.{ap}
use Rattle.std.proofs.lemmas.List.{append_cancel_right}
use Rattle.document_grammar.proofs.Booleans.{and-l, and-r, not-c, false-true}
use Rattle.document_grammar.specs.Booleans.{◌and◌, ◌or◌}
use Rattle.document_grammar.specs.Kinds.{words, DOCUMENT, SELECTION_SET}
use Rattle.document_grammar.specs.Tree.{Token, Tree, leaf, node, Forest, root}
use Rattle.grammar_machine.proofs.Checks.{exits, follow}
use Rattle.grammar_machine.proofs.Endings.{ending, fillable}
use Rattle.grammar_machine.proofs.Run.{next, same-tree, Left, left-stuck, left-done, reach-left, reach-other}
use Rattle.grammar_machine.proofs.Sound.{reach-sound, reach-spent, spent, viable, Whole, path-ok, move-ends}
use Rattle.grammar_machine.proofs.TableLemmas.{exits-at}
use Rattle.grammar_machine.proofs.TwoTokenLookahead.{tree-run}
use Rattle.grammar_machine.proofs.generated.Follows.{follows}
use Rattle.grammar_machine.proofs.generated.Samples.{endings, spellings}
use Rattle.grammar_machine.specs.Machine.{holds, is_leaf, at, ends, exit, arcs, has, target, entries, fires, close}
use Rattle.grammar_machine.specs.Machine.{stuck, class, first, second, token, yield, yields, Ok, Run, Frame, frame}
use Rattle.grammar_machine.specs.Machine.{Reach}
use Rattle.grammar_machine.specs.Symbols.{TYPE, BARE_SELECTIONS}
use Rattle.grammar_machine.specs.Table.{rows, firsts}

-- A tree of the symbol `start_symbol` over the tokens `tokens`.
abbrev pub Parse : ℕ → Tree → List Token → Type 0
Parse start_symbol tree tokens = Ok tree × (root tree ≡ start_symbol) × (yield tree ≡ tokens)

-- The symbols with which a parse may begin: no leaf, with an end, and with the end of the text after it.
unfoldable pub begins_parse : ℕ → Bool
begins_parse start_symbol =
    not (is_leaf start_symbol) and fillable start_symbol 0 and exits start_symbol (λ x. holds 0 (follow start_symbol x))

pub document-begins : begins_parse DOCUMENT ≡ true
unfolding begins_parse ◌and◌ ◌or◌ holds is_leaf at ends exit arcs has target entries fires class token words rows firsts
    follows follow exits endings spellings
    ending fillable
document-begins = refl

-- The same of a selection set, of one without braces, and of a type.
pub fragments-begin : (begins_parse SELECTION_SET ≡ true) × (begins_parse BARE_SELECTIONS ≡ true)
    × (begins_parse TYPE ≡ true)
unfolding begins_parse ◌and◌ ◌or◌ holds is_leaf at ends exit arcs has target entries fires class token words rows firsts
    follows follow exits endings spellings
    ending fillable
fragments-begin = (refl, refl, refl)

module _ (start_symbol : ℕ) (b : begins_parse start_symbol ≡ true) where
  pub runs : (tree : Tree) (tokens : List Token) → Parse start_symbol tree tokens → Run tree []
  unfolding begins_parse first
  runs tree tokens parse = tree-run tree [] parse.0 (exits-at tree (λ x. holds 0 (follow (root tree) x))
      (subst (λ (n : ℕ). exits n (λ x. holds 0 (follow n x)) ≡ true) (sym parse.1) (and-r _ _ b)) parse.0)

  pub no-leaf : is_leaf start_symbol ≡ false
  unfolding begins_parse
  no-leaf = not-c _ (and-l _ _ (and-l _ _ b))

  pub can-end : fillable start_symbol 0 ≡ true
  unfolding begins_parse
  can-end = and-r _ _ (and-l _ _ b)

  pub on-the-way : (tree : Tree) (tokens : List Token) (fs : List Frame) (rest : List Token)
      → Parse start_symbol tree tokens
      → Reach start_symbol tokens fs rest → Left fs rest tree
  on-the-way (leaf leaf_symbol text) tokens fs rest parse reach =
      false-true no-leaf (subst (λ (n : ℕ). is_leaf n ≡ true) parse.1 parse.0.0)
  on-the-way (node symbol forest) tokens fs rest parse reach =
      subst (λ (n : ℕ). Left fs rest (node n forest)) (sym parse.1)
      (reach-left reach forest
      (subst (λ (n : ℕ). Run (node n forest) []) parse.1 (runs (node symbol forest) tokens parse)) parse.2)

  -- One derivation.
  pub one-tree : (tree other_tree : Tree) (tokens : List Token) → Parse start_symbol tree tokens
      → Parse start_symbol other_tree tokens → tree ≡ other_tree
  one-tree tree other_tree tokens parse second_parse =
      (same-tree tree other_tree [] [] (parse.1 ∙ sym second_parse.1) (runs tree tokens parse)
      (runs other_tree tokens second_parse)
      (append-nil (yield tree) ∙ (parse.2 ∙ (sym second_parse.2 ∙ sym (append-nil (yield other_tree)))))).0

  -- Acceptance: on the way through the tokens of a tree the machine is never stuck.
  pub never-stuck : (tree : Tree) (tokens : List Token) (symbol state : ℕ) (forest : Forest)
      (fs : List Frame) (rest : List Token)
      → Parse start_symbol tree tokens
      → Reach start_symbol tokens (frame symbol state forest ∷ fs) rest → next symbol state rest ≡ stuck → ⊥
  never-stuck tree tokens symbol state forest fs rest parse reach m = left-stuck symbol state forest fs rest tree
      (on-the-way tree tokens (frame symbol state forest ∷ fs) rest parse reach) m

  -- Soundness: where the first symbol's node ends, it is a tree of the tokens before.
  pub done : (tokens : List Token) (state : ℕ) (forest : Forest) (rest : List Token)
      → Reach start_symbol tokens (frame start_symbol state forest ∷ []) rest
      → next start_symbol state rest ≡ close
      → (tokens ≡ yields forest ++ rest) × Parse start_symbol (node start_symbol forest) (yields forest)
  done tokens state forest rest reach m =
      let h = reach-sound no-leaf reach in (
        reach-spent reach,
        (
          (h.0, path-ok start_symbol 0 state forest h.1 (move-ends start_symbol state _ _ m)),
          refl,
          refl,
        ),
      )

  -- Over the tokens of a tree it ends after all of them, and is that tree.
  pub done-all : (tree : Tree) (tokens : List Token) (state : ℕ) (forest : Forest) (rest : List Token)
      → Parse start_symbol tree tokens
      → Reach start_symbol tokens (frame start_symbol state forest ∷ []) rest
      → next start_symbol state rest ≡ close → (rest ≡ []) × (node start_symbol forest ≡ tree)
  done-all tree tokens state forest rest parse reach m = left-done start_symbol state forest rest tree
      (on-the-way tree tokens (frame start_symbol state forest ∷ []) rest parse reach) m

  -- What is said of the first fault, before the tokens `rest`: the tokens before it begin a tree, and no tree's tokens
  -- begin with them and go on with the next two.
  pub record Fault (tokens rest : List Token) : Type 0 where
    pub before : List Token
    pub split : tokens ≡ before ++ rest
    pub not_late : Whole start_symbol before
    pub not_early : (tree : Tree) (these_tokens : List Token) → Parse start_symbol tree (before ++ these_tokens)
        → first rest ≡ first these_tokens
        → second rest ≡ second these_tokens → ⊥

  -- a fault wherever no tree goes on so
  faulty : (tokens : List Token) (fs : List Frame) (rest : List Token) → Reach start_symbol tokens fs rest
      → ((tree : Tree) (more others : List Token) → Parse start_symbol tree (more ++ others)
      → Reach start_symbol (more ++ others) fs others
      → first rest ≡ first others → second rest ≡ second others → ⊥) → Fault tokens rest
  faulty tokens fs rest reach none =
      let o = reach-other reach in
      let e : o.0 ≡ spent fs = append_cancel_right o.0 (spent fs) rest (sym o.1 ∙ reach-spent reach) in
      record {
        before = o.0;
        split = o.1;
        not_late = subst (λ (u : List Token). Whole start_symbol u) (sym e) (viable no-leaf can-end reach);
        not_early = λ t v p e1 e2. none t o.0 v p (o.2 v e1 e2) e1 e2;
      }

  pub fault : (tokens : List Token) (symbol state : ℕ) (forest : Forest) (fs : List Frame) (rest : List Token)
      → Reach start_symbol tokens (frame symbol state forest ∷ fs) rest → next symbol state rest ≡ stuck
      → Fault tokens rest
  fault tokens symbol state forest fs rest reach m = faulty tokens (frame symbol state forest ∷ fs) rest reach
      (λ t u v p h e1 e2. never-stuck t (u ++ v) symbol state forest fs v p h (rw (e1, e2) at m))

  -- the first symbol's node ends, and tokens are left
  pub fault-left : (tokens : List Token) (state : ℕ) (forest : Forest) (rest : List Token)
      → Reach start_symbol tokens (frame start_symbol state forest ∷ []) rest → next start_symbol state rest ≡ close
      → (first rest ≡ 0 → ⊥) → Fault tokens rest
  unfolding first
  fault-left tokens state forest rest reach m left = faulty tokens (frame start_symbol state forest ∷ []) rest reach
      (λ t u v p h e1 e2. left (e1 ∙ ap first (done-all t (u ++ v) state forest v p h (rw (e1, e2) at m)).0))

  -- So there is no fault before the end of the tokens of a tree.
  pub no-fault : (tree : Tree) (tokens rest : List Token) → Parse start_symbol tree tokens → Fault tokens rest → ⊥
  no-fault tree tokens rest parse h =
      h.not_early tree rest (subst (λ (z : List Token). Parse start_symbol tree z) h.split parse) refl refl
