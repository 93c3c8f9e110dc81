-- Every tree that fits the rows is made by the machine.
use Rattle.std.proofs.Common.{◌≡◌, ℕ, ◌+◌, Bool, true, false, not, eqb, List, [], ◌∷◌, ◌++◌, refl, sym, ap, ◌∙◌, subst}
use Rattle.std.proofs.Common.{◌⊎◌, inl, inr, true≢false, append_assoc, eqb-true, ltb-true}
use Rattle.std.proofs.lemmas.Bool.{false_from_ne_true}
use Rattle.document_grammar.proofs.Booleans.{false-true, and-l, and-r, and-i, or-c, or-l, or-r, or-false, and-false-l}
use Rattle.document_grammar.proofs.Booleans.{and-false-r, implies, not-c, either}
use Rattle.document_grammar.specs.Booleans.{◌and◌, ◌or◌}
use Rattle.document_grammar.specs.Kinds.{DOCUMENT}
use Rattle.document_grammar.specs.Tree.{Text, Token, Tree, leaf, node, Forest, none, ◌▸◌, root}
use Rattle.grammar_machine.proofs.Checks.{subset, disjoint, entries_mask, arcs_mask, follow, exits, all_arcs}
use Rattle.grammar_machine.proofs.Checks.{all_entries, any_entries, state_begins, follow_test, close_test, clear}
use Rattle.grammar_machine.proofs.Checks.{differ, choice_arcs, choice_test, covered, first_arc, first_test, leaf_entry}
use Rattle.grammar_machine.proofs.Checks.{follow-checked, close-checked, choice-checked, first-checked, leaf-checked}
use Rattle.grammar_machine.proofs.TableLemmas.{any-with, any-entry, any-more, no-entry, begun_by, fires-any, holds-mask}
use Rattle.grammar_machine.proofs.TableLemmas.{holds-subset, holds-disjoint, holds-or, arcs-at, row-test, state-test}
use Rattle.grammar_machine.proofs.TableLemmas.{arc-test, exits-at, below-at}
use Rattle.grammar_machine.specs.Machine.{holds, is_leaf, at, ends, exit, arcs, has, target, entries, fires, fires_in}
use Rattle.grammar_machine.specs.Machine.{has_in, target_in, choose, go, close, move, class, first, second, token}
use Rattle.grammar_machine.specs.Machine.{yield, yields, finish, walk, Ok, OkFrom, Run, RunFrom}
use Rattle.grammar_machine.specs.Table.{Entry}

-- The second token of a list fits an entry.
abbrev second_fits : Bool → ℕ → List Token → Bool
second_fits alone y [] = alone
second_fits alone y (this_token ∷ rest) = holds (class this_token) y

abbrev starts_in : List Entry → ℕ → List Token → Bool
starts_in es a rest = any_entries es (λ x y alone. holds a x and second_fits alone y rest)

starts-begins : (es : List Entry) (a : ℕ) (rest : List Token) → starts_in es a rest ≡ true
    → holds a (entries_mask es) ≡ true
starts-begins es a rest h = holds-mask es a (any-more es _ (λ x y alone. holds a x) h (λ x y alone p. and-l _ _ p))

arc-begins : (l : List (ℕ × ℕ)) (child a : ℕ) → has_in l child ≡ true → holds a (entries_mask (entries child)) ≡ true
    → holds a (arcs_mask l) ≡ true
unfolding arcs_mask
arc-begins [] child a h i = absurd (true≢false (sym h))
arc-begins (c ∷ more) child a h i = elim (or-c (eqb c.0 child) (has_in more child) h) [
  | inl p ↦ holds-or a (entries_mask (entries c.0)) (arcs_mask more) (inl
      (subst (λ (n : ℕ). holds a (entries_mask (entries n)) ≡ true) (sym (eqb-true _ _ p)) i))
  | inr p ↦ holds-or a (entries_mask (entries c.0)) (arcs_mask more) (inr (arc-begins more child a p i))
]

-- Leaves.
leaf-starts : (es : List Entry) (a b : ℕ) → all_entries es (λ x y a. a and eqb y 0) ≡ true → fires_in es a b ≡ true
    → starts_in es a [] ≡ true
leaf-starts es a b t h =
    any-more es _ (λ x y alone. holds a x and alone)
    (any-with es (λ x y a. a and eqb y 0) (begun_by a b) t (rw fires-any at h))
    (λ x y alone p. and-i (and-l _ _ (and-r _ _ p)) (and-l _ _ (and-l _ _ p)))

-- Nodes.
abbrev TailOk : ℕ → ℕ → List Token → Type 0
TailOk symbol state [] = ends symbol state ≡ true
TailOk symbol state (this_token ∷ rest) = holds (class this_token) (state_begins (at symbol state)) ≡ true

second-covered : (symbol state : ℕ) (tokens more : List Token) (y1 y2 : ℕ) (a1 a2 : Bool) → subset y1 y2 ≡ true
    → (a1 ≡ true → (subset (state_begins (at symbol state)) y2 and (not (ends symbol state) or a2)) ≡ true)
    → TailOk symbol state more
    → second_fits a1 y1 tokens ≡ true
    → second_fits a2 y2 (tokens ++ more) ≡ true
second-covered symbol state [] [] y1 y2 a1 a2 u c tail_ok h = implies (ends symbol state) a2
    (and-r (subset (state_begins (at symbol state)) y2) _ (c h)) tail_ok
second-covered symbol state [] (this_token ∷ more) y1 y2 a1 a2 u c tail_ok h =
    holds-subset (class this_token) (state_begins (at symbol state)) y2 (and-l _ _ (c h)) tail_ok
second-covered symbol state (this_token ∷ tokens) more y1 y2 a1 a2 u c tail_ok h =
    holds-subset (class this_token) y1 y2 u h

all-covered : (es fs : List Entry) (symbol state x a : ℕ) (tokens more : List Token)
    → all_entries es (λ x1 y1 a1. any_entries fs (λ x2 y2 a2. subset x1 x2 and subset y1 y2
    and (not a1 or (subset (state_begins (at symbol (state + x))) y2 and (not (ends symbol (state + x)) or a2)))))
    ≡ true
    → TailOk symbol (state + x) more → starts_in es a tokens ≡ true → starts_in fs a (tokens ++ more) ≡ true
all-covered es fs symbol state x a tokens more t tail_ok h =
    any-entry es _ (any-with es _ (λ x y1 alone. holds a x and second_fits alone y1 tokens) t h)
    (λ x1 y1 a1 p.
    any-more fs _ (λ x2 y2 a2. holds a x2 and second_fits a2 y2 (tokens ++ more)) (and-l _ _ p) (λ x2 y2 a2 c.
    and-i (holds-subset a x1 x2 (and-l _ _ (and-l _ _ c)) (and-l _ _ (and-r _ _ p)))
    (second-covered symbol (state + x) tokens more y1 y2 a1 a2 (and-r _ _ (and-l _ _ c)) (implies a1 _ (and-r _ _ c))
    tail_ok (and-r _ _ (and-r _ _ p)))))

row-start : (symbol : ℕ) → is_leaf symbol ≡ false
    → all_arcs (arcs symbol 0) (first_arc symbol) and not (ends symbol 0) ≡ true
unfolding arcs ends
row-start s l = implies _ _ (state-test first_test first-checked (λ s q. or-r _ _ (and-i refl refl)) s 0 l) refl

-- What the tokens of a tree begin with.
abbrev Begun : Tree → Type 0
Begun tree = (this_token : Token) × (tokens : List Token) × (yield tree ≡ this_token ∷ tokens)
    × (starts_in (entries (root tree)) (class this_token) tokens ≡ true)

leaf-begun : (leaf_symbol : ℕ) (text : Text) → Ok (leaf leaf_symbol text) → Begun (leaf leaf_symbol text)
unfolding fires is_leaf
leaf-begun leaf_symbol text ok = (
  token leaf_symbol text,
  [],
  refl,
  leaf-starts (entries leaf_symbol) (class (token leaf_symbol text)) 0
      (below-at leaf_entry DOCUMENT leaf_symbol (ltb-true _ _ ok.0) leaf-checked) ok.1,
)

node-begun : (symbol : ℕ) (tree : Tree) (forest : Forest) → is_leaf symbol ≡ false → has symbol 0 (root tree) ≡ true
    → Ok tree → Begun tree
    → TailOk symbol (target symbol 0 (root tree) + finish tree) (yields forest) → Begun (node symbol (tree ▸ forest))
unfolding has target
node-begun symbol tree forest l h ok begun tail_ok =
    let c = exits-at tree (λ x. all_entries (entries (root tree)) (covered symbol (target symbol 0 (root tree)) x))
    (arcs-at (arcs symbol 0) (first_arc symbol) (root tree) (and-l _ _ (row-start symbol l)) h) ok in (
      begun.0,
      begun.1 ++ yields forest,
      ap (λ (v : List Token). v ++ yields forest) begun.2,
      all-covered (entries (root tree)) (entries symbol) symbol (target symbol 0 (root tree)) (finish tree)
          (class begun.0) begun.1
          (yields forest) c tail_ok begun.3,
    )

tail-begun : (symbol state : ℕ) (tree : Tree) (forest : Forest) → has symbol state (root tree) ≡ true → Begun tree
    → TailOk symbol state (yields (tree ▸ forest))
unfolding has arcs
tail-begun symbol state tree forest h begun =
    subst (λ (v : List Token). TailOk symbol state (v ++ yields forest)) (sym begun.2)
    (arc-begins (arcs symbol state) (root tree) (class begun.0) h
    (starts-begins (entries (root tree)) (class begun.0) begun.1 begun.3))

mutual
  pub tree-first : (tree : Tree) → Ok tree → Begun tree
  tree-first (leaf leaf_symbol text) ok = leaf-begun leaf_symbol text ok
  tree-first (node symbol none) ok = false-true (not-c _ (and-r _ _ (row-start symbol ok.0))) ok.1
  tree-first (node symbol (tree ▸ forest)) ok =
      node-begun symbol tree forest ok.0 ok.1.0 ok.1.1 (tree-first tree ok.1.1)
      (forest-first symbol (target symbol 0 (root tree) + finish tree) forest ok.1.2)

  pub forest-first : (symbol state : ℕ) (forest : Forest) → OkFrom symbol state forest
      → TailOk symbol state (yields forest)
  forest-first symbol state none ok_from = ok_from
  forest-first symbol state (tree ▸ forest) ok_from =
      tail-begun symbol state tree forest ok_from.0 (tree-first tree ok_from.1)

-- What may come after a state: a token that begins what is left of the row, or, where the row may end, one that may
-- follow it.
abbrev NextOk : ℕ → ℕ → List Token → Type 0
NextOk symbol state rest = (holds (first rest) (state_begins (at symbol state)) ≡ true)
    ⊎ ((ends symbol state ≡ true) × (holds (first rest) (follow symbol (exit symbol state)) ≡ true))

begun-split : (tree : Tree) (begun : Begun tree) (forest : Forest) (rest : List Token)
    → yields (tree ▸ forest) ++ rest ≡ begun.0 ∷ (begun.1 ++ (yields forest ++ rest))
begun-split tree begun forest rest =
    append_assoc (yield tree) (yields forest) rest ∙ ap (λ (v : List Token). v ++ (yields forest ++ rest)) begun.2

next-ok : (symbol state : ℕ) (forest : Forest) (rest : List Token) → OkFrom symbol state forest
    → holds (first rest) (follow symbol (exit symbol (walk symbol state forest))) ≡ true
    → NextOk symbol state (yields forest ++ rest)
unfolding has arcs first
next-ok symbol state none rest ok_from h = inr (ok_from, h)
next-ok symbol state (tree ▸ forest) rest ok_from h = let b = tree-first tree ok_from.1 in
    inl (rw (begun-split tree b forest rest) (arc-begins (arcs symbol state) (root tree) (class b.0) ok_from.0
    (starts-begins (entries (root tree)) (class b.0) b.1 b.3)))

-- The close: nothing that may go on begins here.
no-fire : (es : List Entry) (a b : ℕ) → holds a (entries_mask es) ≡ false → fires_in es a b ≡ false
no-fire es a b h = false_from_ne_true _ (λ p.
    false-true h (holds-mask es a
    (any-more es (begun_by a b) (λ x y alone. holds a x) (rw fires-any at p) (λ x y alone q. and-l _ _ q))))

choose-close : (l : List (ℕ × ℕ)) (e : Bool) (a b : ℕ) → e ≡ true → holds a (arcs_mask l) ≡ false
    → choose l e a b ≡ close
unfolding arcs_mask fires
choose-close [] e a b h n = rw h refl
choose-close (c ∷ more) e a b h n =
    let begins = holds-or a (entries_mask (entries c.0)) (arcs_mask more) in
    rw (no-fire (entries c.0) a b (false_from_ne_true _ (λ p. false-true n (begins (inl p)))))
    (choose-close more e a b h (false_from_ne_true _ (λ p. false-true n (begins (inr p)))))

close-at : (symbol state : ℕ) → is_leaf symbol ≡ false → ends symbol state ≡ true
    → disjoint (state_begins (at symbol state)) (follow symbol (exit symbol state)) ≡ true
unfolding ends exit ◌or◌
close-at symbol state l e = implies _ _ (row-test close_test close-checked (λ k. refl) symbol state l) e

disjoint-r : (a x y : ℕ) → disjoint x y ≡ true → holds a y ≡ true → holds a x ≡ false
disjoint-r a x y d h = false_from_ne_true _ (λ p. false-true (holds-disjoint a x y d p) h)

move-close : (symbol state : ℕ) (rest : List Token) → is_leaf symbol ≡ false → ends symbol state ≡ true
    → holds (first rest) (follow symbol (exit symbol state)) ≡ true
    → move symbol state (first rest) (second rest) ≡ close
unfolding move arcs
move-close symbol state rest l e h = choose-close (arcs symbol state) (ends symbol state) (first rest) (second rest) e
    (disjoint-r (first rest) (state_begins (at symbol state)) (follow symbol (exit symbol state))
    (close-at symbol state l e) h)

-- A child: no symbol before it begins here.
starts-fires : (es : List Entry) (a : ℕ) (tokens more : List Token) → starts_in es a tokens ≡ true
    → fires_in es a (first (tokens ++ more)) ≡ true
unfolding first
starts-fires es a tokens more h = rw fires-any (any-more es _ (begun_by a (first (tokens ++ more))) h
    (λ x1 y1 a1 p. and-i (and-l _ _ p) (fits y1 a1 tokens (and-r _ _ p))))
  where
    fits : (y1 : ℕ) (a1 : Bool) (tokens : List Token) → second_fits a1 y1 tokens ≡ true
        → a1 or holds (first (tokens ++ more)) y1 ≡ true
    fits y1 a1 [] g = or-l _ _ g
    fits y1 a1 (this_token ∷ tokens) g = or-r _ _ g

choose-go : (l : List (ℕ × ℕ)) (symbol child state a b : ℕ) (e : Bool) → choice_arcs symbol l ≡ true
    → has_in l child ≡ true → target_in l child ≡ state
    → fires child a b ≡ true
    → ((j : ℕ) → differ symbol child state j ≡ true → fires j a b ≡ false) → choose l e a b ≡ go child
unfolding ◌or◌
choose-go [] symbol child state a b e c h t f d = absurd (true≢false (sym h))
choose-go (arc ∷ more) symbol child state a b e c h t f d = elim (either (eqb arc.0 child)) [
  | inl p ↦ (let n : arc.0 ≡ child = eqb-true _ _ p in let f' : fires arc.0 a b ≡ true = rw n f in rw f' (ap go n))
  | inr p ↦ (let h' : has_in more child ≡ true = rw p at h in let t' : target_in more child ≡ state = rw p at t in
      let d' : differ symbol child state arc.0 ≡ true =
      rw t' at (arcs-at more (λ k' q'. differ symbol k' q' arc.0) child (and-l _ _ c) h') in
      rw (d arc.0 d') (choose-go more symbol child state a b e (and-r _ _ c) h' t' f d))
]

child-follow : (symbol state : ℕ) (tree : Tree) (rest : List Token) → is_leaf symbol ≡ false
    → has symbol state (root tree) ≡ true → Ok tree
    → NextOk symbol (target symbol state (root tree) + finish tree) rest
    → holds (first rest) (follow (root tree) (finish tree)) ≡ true
unfolding has target
child-follow symbol state tree rest l h ok next_ok =
    let c = exits-at tree (λ x. subset (state_begins (at symbol (target_in (arcs symbol state) (root tree) + x)))
    (follow (root tree) x)
    and (not (ends symbol (target_in (arcs symbol state) (root tree) + x))
    or subset (follow symbol (exit symbol (target_in (arcs symbol state) (root tree) + x))) (follow (root tree) x)))
    (arc-test follow_test follow-checked symbol state (root tree) l h) ok in
    elim next_ok [
      | inl p ↦ holds-subset (first rest) _ _ (and-l _ _ c) p
      | inr p ↦
          holds-subset (first rest) _ _ (implies _ _ (and-r _ _ c) p.0) p.1
    ]

unfires : (es ks : List Entry) (symbol child state a : ℕ) (tokens more : List Token)
    → all_entries es (λ x2 y2 a2. all_entries ks (λ x1 y1 a1. disjoint x1 x2
    or (not a2 and disjoint y1 y2 and (not a1 or exits child (λ x. clear symbol state x y2))))) ≡ true
    → starts_in ks a tokens ≡ true
    → ((m : ℕ) → exits child (λ x. clear symbol state x m) ≡ true → holds (first more) m ≡ false)
    → fires_in es a (first (tokens ++ more)) ≡ false
unfolding first
unfires es ks symbol child state a tokens more t h g =
    rw fires-any (no-entry es _ (begun_by a (first (tokens ++ more))) t (λ x2 y2 a2 c.
    any-entry ks _ (any-with ks _ (λ x y1 alone. holds a x and second_fits alone y1 tokens) c h)
    (λ x1 y1 a1 p. elim (or-c _ _ (and-l _ _ p)) [
      | inl d ↦ and-false-l _ _ (holds-disjoint a x1 x2 d (and-l _ _ (and-r _ _ p)))
      | inr d ↦ and-false-r (holds a x2) (or-false (not-c _ (and-l _ _ (and-l _ _ d)))
          (miss y1 y2 a1 tokens (and-r _ _ (and-r _ _ p)) (and-r _ _ (and-l _ _ d)) (and-r _ _ d)))
    ])))
  where
    miss : (y1 y2 : ℕ) (a1 : Bool) (tokens : List Token) → second_fits a1 y1 tokens ≡ true → disjoint y1 y2 ≡ true
        → not a1 or exits child (λ x. clear symbol state x y2) ≡ true
        → holds (first (tokens ++ more)) y2 ≡ false
    miss y1 y2 a1 [] f d e = g y2 (implies _ _ e f)
    miss y1 y2 a1 (this_token ∷ tokens) f d e = holds-disjoint (class this_token) y1 y2 d f

next-clear : (symbol state x : ℕ) (tokens : List Token) (m : ℕ) → NextOk symbol (state + x) tokens
    → clear symbol state x m ≡ true
    → holds (first tokens) m ≡ false
next-clear symbol state x tokens m next_ok c = elim next_ok [
  | inl p ↦ disjoint-r (first tokens) m _ (and-l _ _ c) p
  | inr p ↦ disjoint-r (first tokens) m _ (implies _ _ (and-r _ _ c) p.0) p.1
]

choice-at : (symbol state : ℕ) → is_leaf symbol ≡ false → choice_arcs symbol (arcs symbol state) ≡ true
unfolding arcs
choice-at symbol state l = row-test choice_test choice-checked (λ k. refl) symbol state l

move-go : (symbol state : ℕ) (tree : Tree) (this_token : Token) (tokens more : List Token) → is_leaf symbol ≡ false
    → has symbol state (root tree) ≡ true
    → Ok tree
    → starts_in (entries (root tree)) (class this_token) tokens ≡ true
    → NextOk symbol (target symbol state (root tree) + finish tree) more
    → move symbol state (first (this_token ∷ (tokens ++ more))) (second (this_token ∷ (tokens ++ more)))
    ≡ go (root tree)
unfolding move has target first second fires
move-go symbol state tree this_token tokens more l h ok st next_ok =
    choose-go (arcs symbol state) symbol (root tree) (target symbol state (root tree))
    (class this_token) (first (tokens ++ more)) (ends symbol state) (choice-at symbol state l) h refl
    (starts-fires (entries (root tree)) (class this_token) tokens more st)
    (λ j d. unfires (entries j) (entries (root tree)) symbol (root tree) (target symbol state (root tree))
    (class this_token) tokens more d st
    (λ m e. next-clear symbol (target symbol state (root tree)) (finish tree) more m next_ok
    (exits-at tree (λ x. clear symbol (target symbol state (root tree)) x m) e ok)))

mutual
  pub tree-run : (tree : Tree) (rest : List Token) → Ok tree
      → holds (first rest) (follow (root tree) (finish tree)) ≡ true → Run tree rest
  tree-run (leaf leaf_symbol text) rest ok h = ok.0
  tree-run (node symbol forest) rest ok h = (ok.0, forest-run symbol 0 forest rest ok.0 ok.1 h)

  pub forest-run : (symbol state : ℕ) (forest : Forest) (rest : List Token) → is_leaf symbol ≡ false
      → OkFrom symbol state forest
      → holds (first rest) (follow symbol (exit symbol (walk symbol state forest))) ≡ true
      → RunFrom symbol state forest rest
  forest-run symbol state none rest l ok_from h = move-close symbol state rest l ok_from h
  forest-run symbol state (tree ▸ forest) rest l ok_from h =
      let next_ok : NextOk symbol (target symbol state (root tree) + finish tree) (yields forest ++ rest) =
      next-ok symbol
      (target symbol state (root tree) + finish tree) forest rest ok_from.2 h in
      let begun : Begun tree = tree-first tree ok_from.1 in (
        rw (begun-split tree begun forest rest)
            (move-go symbol state tree begun.0 begun.1 (yields forest ++ rest) l ok_from.0 ok_from.1 begun.3 next_ok),
        tree-run tree (yields forest ++ rest) ok_from.1
            (child-follow symbol state tree (yields forest ++ rest) l ok_from.0 ok_from.1 next_ok),
        forest-run symbol (target symbol state (root tree) + finish tree) forest rest l ok_from.2 h,
      )
