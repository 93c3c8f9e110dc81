-- The machine run by computing, for examples: a number of steps from the start, and the tokens that they take.
use Rattle.std.proofs.Common.{◌≡◌, ℕ, zero, suc, ◌+◌, Bool, true, false, cond, List, [], ◌∷◌, ◌++◌, refl, sym, ◌∙◌}
use Rattle.std.proofs.Common.{subst, inl, inr, true≢false, append-nil, eqb, ltb, not, map, ap, eqb-true, ltb-true}
use Rattle.std.proofs.lemmas.List.{append_cancel_right}
use Rattle.std.proofs.lemmas.Str.{IsUtf8-from_ascii}
use Rattle.std.proofs.lemmas.Str.Ascii.{IsAscii-nil, IsAscii-cons}
use Rattle.std.specs.Prelude.{codes}
use Rattle.std.specs.Str.{IsAscii}
use Prim.Native.String.{String}
use Rattle.lexical_grammar.proofs.TheCut.{is-cut}
use Rattle.lexical_grammar.specs.Cut.{Item, Cut, Significant, are_tokens}
use Rattle.lexical_grammar.specs.Reads.{items_of}
use Rattle.document_grammar.proofs.Booleans.{either, or-c, and-l, and-r, not-c, false-true}
use Rattle.document_grammar.proofs.Texts.{one-cut}
use Rattle.document_grammar.specs.Beginnings.{Starts}
use Rattle.document_grammar.specs.Booleans.{◌or◌, ◌and◌}
use Rattle.document_grammar.specs.Derivation.{Sort, Spells, nest}
use Rattle.document_grammar.specs.Sentence.{token_of, Sentence}
use Rattle.document_grammar.specs.Tree.{Token, Tree, leaf, node, Forest, none, ◌▸◌, ◌+++◌}
use Rattle.grammar_machine.proofs.FromMachineTree.{show}
use Rattle.grammar_machine.proofs.MachineTheorems.{fault, no-leaf}
use Rattle.grammar_machine.proofs.Run.{is_stuck, next}
use Rattle.grammar_machine.proofs.SentenceTheorems.{start_symbol, FaultIn, Ended, sound, sound-all, accepts, not-starts}
use Rattle.grammar_machine.proofs.Sound.{reach-sound}
use Rattle.grammar_machine.proofs.Starts.{opens, read, next_two}
use Rattle.grammar_machine.specs.Machine.{is_leaf, exit, target, Move, go, close, stuck, first, yields, Frame, frame}
use Rattle.grammar_machine.specs.Machine.{Reach, start, shift, open', closed}

abbrev Config : Type 0
Config = List Frame × List Token

abbrev act : Move → ℕ → ℕ → Forest → List Frame → List Token → Config
act (go child) symbol state forest fs [] =
    cond (is_leaf child) (frame symbol state forest ∷ fs, []) (frame child 0 none ∷ frame symbol state forest ∷ fs, [])
act (go child) symbol state forest fs (token ∷ rest) = cond (is_leaf child)
    (frame symbol (target symbol state child) (forest +++ (leaf child token.1 ▸ none)) ∷ fs, rest) (
      frame child 0 none ∷ frame symbol state forest ∷ fs,
      token ∷ rest,
    )
act close symbol state forest [] rest = (frame symbol state forest ∷ [], rest)
act close symbol state forest (frame p o more_trees ∷ fs) rest = (
  frame p (target p o symbol + exit symbol state) (more_trees +++ (node symbol forest ▸ none))
      ∷ fs,
  rest,
)
act stuck symbol state forest fs rest = (frame symbol state forest ∷ fs, rest)

abbrev step : List Frame → List Token → Config
step [] rest = ([], rest)
step (frame symbol state forest ∷ fs) rest = act (next symbol state rest) symbol state forest fs rest

abbrev steps : ℕ → List Frame → List Token → Config
steps zero fs rest = (fs, rest)
steps (suc n) fs rest = let c = step fs rest in steps n c.0 c.1

abbrev At : ℕ → List Token → Config → Type 0
At first_symbol tokens config = Reach first_symbol tokens config.0 config.1

act-reach : (move : Move) (first_symbol : ℕ) (tokens : List Token) (symbol state : ℕ) (forest : Forest)
    (fs : List Frame) (rest : List Token)
    → Reach first_symbol tokens (frame symbol state forest ∷ fs) rest
    → next symbol state rest ≡ move → At first_symbol tokens (act move symbol state forest fs rest)
act-reach (go child) first_symbol tokens symbol state forest fs [] reach m =
    elim (either (is_leaf child)) [ inl p ↦ rw p reach | inr p ↦ rw p (open' reach m p) ]
act-reach (go child) first_symbol tokens symbol state forest fs (token ∷ rest) reach m =
    elim (either (is_leaf child)) [ inl p ↦ rw p (shift reach m p) | inr p ↦ rw p (open' reach m p) ]
act-reach close first_symbol tokens symbol state forest [] rest reach m = reach
act-reach close first_symbol tokens symbol state forest (frame p o more_trees ∷ fs) rest reach m = closed reach m
act-reach stuck first_symbol tokens symbol state forest fs rest reach m = reach

step-reach : (first_symbol : ℕ) (tokens : List Token) (fs : List Frame) (rest : List Token)
    → Reach first_symbol tokens fs rest
    → At first_symbol tokens (step fs rest)
step-reach first_symbol tokens [] rest reach = reach
step-reach first_symbol tokens (frame symbol state forest ∷ fs) rest reach =
    act-reach (next symbol state rest) first_symbol tokens symbol state forest fs rest reach refl

steps-reach : (n first_symbol : ℕ) (tokens : List Token) (fs : List Frame) (rest : List Token)
    → Reach first_symbol tokens fs rest
    → At first_symbol tokens (steps n fs rest)
steps-reach zero first_symbol tokens fs rest reach = reach
steps-reach (suc n) first_symbol tokens fs rest reach =
    steps-reach n first_symbol tokens (step fs rest).0 (step fs rest).1
    (step-reach first_symbol tokens fs rest reach)

-- After `n` steps over the tokens.
unfoldable pub walked : Sort → ℕ → List Token → Config
walked sort n tokens = steps n (frame (start_symbol sort tokens) 0 none ∷ []) tokens

walked-reach : (sort : Sort) (n : ℕ) (tokens : List Token) → At (start_symbol sort tokens) tokens (walked sort n tokens)
unfolding walked
walked-reach sort n tokens =
    steps-reach n (start_symbol sort tokens) tokens (frame (start_symbol sort tokens) 0 none ∷ []) tokens start

abbrev is_close : Move → Bool
is_close close = true
is_close _ = false

is-close : (move : Move) → is_close move ≡ true → move ≡ close
is-close close h = refl
is-close _ h = absurd (true≢false (sym h))

is-stuck : (move : Move) → is_stuck move ≡ true → move ≡ stuck
is-stuck stuck h = refl
is-stuck _ h = absurd (true≢false (sym h))

-- All is read and the root ends; or nothing goes on.
abbrev ends_clean : Config → Bool
ends_clean (frame symbol state forest ∷ [], []) = is_close (next symbol state [])
ends_clean _ = false

abbrev ends_stuck : Config → Bool
ends_stuck ([], r) = false
ends_stuck (frame symbol state forest ∷ fs, r) = is_stuck (next symbol state r)

-- The root is all that is open and ends, before more tokens.
abbrev ends_early : Config → Bool
ends_early (frame symbol state forest ∷ [], a ∷ r) = is_close (next symbol state (a ∷ r))
ends_early _ = false

-- The tree of the innermost open node.
abbrev tree_in : Config → Tree
tree_in ([], r) = leaf 0 []
tree_in (frame symbol state forest ∷ fs, r) = show (node symbol forest)

ended : (sort : Sort) (tokens : List Token) (symbol state : ℕ) (forest : Forest) (rest : List Token)
    → Reach (start_symbol sort tokens) tokens (frame symbol state forest ∷ []) rest
    → is_close (next symbol state rest) ≡ true → (symbol ≡ start_symbol sort tokens) × Ended sort tokens forest rest
ended sort tokens symbol state forest rest reach e =
    let i : symbol ≡ start_symbol sort tokens =
    (reach-sound (no-leaf (start_symbol sort tokens) (opens sort (first tokens))) reach).2 in
    let m : next symbol state rest ≡ close = is-close (next symbol state rest) e in (
      i,
      (
        state,
        subst (λ (n : ℕ). Reach (start_symbol sort tokens) tokens (frame n state forest ∷ []) rest) i reach,
        subst (λ (n : ℕ). next n state rest ≡ close) i m,
      ),
    )

clean-from : (sort : Sort) (tokens : List Token) (config : Config) → At (start_symbol sort tokens) tokens config
    → ends_clean config ≡ true
    → Spells tokens (tree_in config) sort
clean-from sort tokens (frame symbol state forest ∷ [], []) h e =
    let x = ended sort tokens symbol state forest [] h e in
    let d = sound sort tokens forest [] x.1 in
    let spells : Spells tokens (show (node (start_symbol sort tokens) forest)) sort = subst
    (λ (v : List Token). Spells v (show (node (start_symbol sort tokens) forest)) sort)
    (sym (d.0 ∙ append-nil (yields forest))) d.1 in
    subst (λ (n : ℕ). Spells tokens (show (node n forest)) sort) (sym x.0) spells
clean-from sort tokens _ h e = absurd (true≢false (sym e))

-- The tree that is read, and the test that it is a derivation of all tokens.
unfoldable pub tree_read : Sort → ℕ → List Token → Tree
tree_read sort n tokens = tree_in (walked sort n tokens)

unfoldable pub is_read : Sort → ℕ → List Token → Bool
is_read sort n tokens = ends_clean (walked sort n tokens)

pub clean : (sort : Sort) (n : ℕ) (tokens : List Token) → is_read sort n tokens ≡ true
    → Spells tokens (tree_read sort n tokens) sort
unfolding tree_read is_read
clean sort n tokens e = clean-from sort tokens (walked sort n tokens) (walked-reach sort n tokens) e

stuck-from : (sort : Sort) (tokens : List Token) (config : Config) → At (start_symbol sort tokens) tokens config
    → ends_stuck config ≡ true
    → FaultIn sort tokens config.1
stuck-from sort tokens ([], r) h e = absurd (true≢false (sym e))
stuck-from sort tokens (frame symbol state forest ∷ fs, r) h e =
    fault (start_symbol sort tokens) (opens sort (first tokens)) tokens symbol state forest fs r h
    (is-stuck (next symbol state r) e)

-- The tokens `tokens`, the next and the one after it begin no sentence.
pub refused : (sort : Sort) (n : ℕ) (tokens rest : List Token) → ends_stuck (walked sort n (tokens ++ rest)) ≡ true
    → (walked sort n (tokens ++ rest)).1 ≡ rest
    → Starts sort (read tokens ++ next_two rest) → ⊥
refused sort n tokens rest e i starts =
    let fault_in : FaultIn sort (tokens ++ rest) rest = subst (λ (v : List Token). FaultIn sort (tokens ++ rest) v) i
    (stuck-from sort (tokens ++ rest) (walked sort n (tokens ++ rest)) (walked-reach sort n (tokens ++ rest)) e) in
    let j : fault_in.before ≡ tokens = append_cancel_right fault_in.before tokens rest (sym fault_in.split) in
    not-starts sort (tokens ++ rest) rest fault_in
    (subst (λ (z : List Token). Starts sort (read z ++ next_two rest)) (sym j) starts)

-- The test that the tokens are refused: nothing goes on, or the root ends before more of them.
unfoldable pub is_refused : Sort → ℕ → List Token → Bool
is_refused sort n tokens = ends_stuck (walked sort n tokens) or ends_early (walked sort n tokens)

early-from : (sort : Sort) (tokens : List Token) (config : Config) → At (start_symbol sort tokens) tokens config
    → ends_early config ≡ true → (tree : Tree)
    → Spells tokens tree sort → ⊥
early-from sort tokens (frame symbol state forest ∷ [], a ∷ r) h e tree spells =
    let x : a ∷ r ≡ [] = (sound-all sort tokens tree forest (a ∷ r) spells
    (ended sort tokens symbol state forest (a ∷ r) h e).1).0 in absurd (cc)
early-from sort tokens _ h e tree spells = absurd (true≢false (sym e))

pub none-spelled : (sort : Sort) (n : ℕ) (tokens : List Token) → is_refused sort n tokens ≡ true → (tree : Tree)
    → Spells tokens tree sort → ⊥
unfolding is_refused
none-spelled sort n tokens e tree spells = elim (or-c _ _ e) [
  | inl p ↦ accepts sort tokens (walked sort n tokens).1 tree spells
      (stuck-from sort tokens (walked sort n tokens) (walked-reach sort n tokens) p)
  | inr p ↦ early-from sort tokens (walked sort n tokens) (walked-reach sort n tokens) p tree spells
]

-- Texts read by computing: the items, then the machine over the significant tokens.

abbrev pub all_ascii : List ℕ → Bool
all_ascii [] = true
all_ascii (b ∷ bs) = ltb b 128 and all_ascii bs

pub is-ascii : (bs : List ℕ) → all_ascii bs ≡ true → IsAscii bs
is-ascii [] h = IsAscii-nil
is-ascii (b ∷ bs) h = IsAscii-cons b bs (ltb-true b 128 (and-l _ _ h)) (is-ascii bs (and-r _ _ h))

abbrev pub tokens_in : List ℕ → List Token
tokens_in source = map token_of (Significant (items_of source))

ascii-cut : (source : List ℕ) → all_ascii source ≡ true → Cut source (items_of source)
ascii-cut source h = is-cut source (IsUtf8-from_ascii source (is-ascii source h))

-- The text is a sentence, and its derivation nests this deep.
abbrev Worked : Sort → String → ℕ → Type 0
Worked sort text high = (tree : Tree) × Sentence (codes text) tree sort × (nest tree ≡ high)

unfoldable pub works : Sort → ℕ → List ℕ → Bool
works sort n source = all_ascii source and are_tokens (items_of source) and is_read sort n (tokens_in source)

pub is-sentence : (sort : Sort) (n : ℕ) (source : List ℕ) → works sort n source ≡ true
    → Sentence source (tree_read sort n (tokens_in source)) sort
unfolding works
is-sentence sort n source h =
    let s = clean sort n (tokens_in source) (and-r _ _ h) in
    record {
      items = items_of source;
      cut = ascii-cut source (and-l _ _ (and-l _ _ h));
      tokens = and-r _ _ (and-l _ _ h);
      derivation = s.0;
      yield = s.1;
    }

-- The same of each text of a list, with its nesting.
abbrev pub AllWorked : Sort → List (String × ℕ) → Type 0
AllWorked sort [] = Unit {0}
AllWorked sort (e ∷ more) = Worked sort e.0 e.1 × AllWorked sort more

unfoldable pub all_work : Sort → List (String × ℕ) → Bool
all_work sort [] = true
all_work sort (e ∷ more) =
    works sort 150 (codes e.0) and eqb (nest (tree_read sort 150 (tokens_in (codes e.0)))) e.1 and all_work sort more

pub all-worked : (sort : Sort) (l : List (String × ℕ)) → all_work sort l ≡ true → AllWorked sort l
unfolding all_work
all-worked sort [] h = tt
all-worked sort (e ∷ more) h =
    let w = and-l _ _ h in (
      (
        tree_read sort 150 (tokens_in (codes e.0)),
        is-sentence sort 150 (codes e.0) (and-l _ _ w),
        eqb-true _ _ (and-r _ _ w),
      ),
      all-worked sort more (and-r _ _ h),
    )

-- The text is no sentence: it has bad text, or its tokens are refused.
abbrev NoSentence : Sort → String → Type 0
NoSentence sort text = (tree : Tree) → Sentence (codes text) tree sort → ⊥

unfoldable pub fails : Sort → ℕ → List ℕ → Bool
fails sort n source = all_ascii source and (not (are_tokens (items_of source)) or is_refused sort n (tokens_in source))

no-sentence : (sort : Sort) (n : ℕ) (text : String) → fails sort n (codes text) ≡ true → NoSentence sort text
unfolding fails
no-sentence sort n text h t s =
    let same : s.items ≡ items_of (codes text) =
    one-cut (codes text) s.items (items_of (codes text)) s.cut (ascii-cut (codes text) (and-l _ _ h)) s.tokens in
    elim (or-c _ _ (and-r _ _ h)) [
      | inl bad ↦ false-true (not-c _ bad) (subst (λ (items : List Item). are_tokens items ≡ true) same s.tokens)
      | inr p ↦ none-spelled sort n (tokens_in (codes text)) p t
          (s.derivation, s.yield ∙ ap (λ (items : List Item). map token_of (Significant items)) same)
    ]

-- The same of each text of a list.
abbrev pub NoSentences : Sort → List String → Type 0
NoSentences sort [] = Unit {0}
NoSentences sort (text ∷ more) = NoSentence sort text × NoSentences sort more

unfoldable pub all_fail : Sort → List String → Bool
all_fail sort [] = true
all_fail sort (text ∷ more) = fails sort 60 (codes text) and all_fail sort more

pub no-sentences : (sort : Sort) (l : List String) → all_fail sort l ≡ true → NoSentences sort l
unfolding all_fail
no-sentences sort [] h = tt
no-sentences sort (text ∷ more) h = (no-sentence sort 60 text (and-l _ _ h), no-sentences sort more (and-r _ _ h))
