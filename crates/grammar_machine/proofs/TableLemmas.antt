-- What the tests say, for each state and symbol.
use Rattle.std.proofs.Common.{◌≡◌, ◌≢◌, ℕ, zero, suc, ◌+◌, ◌-◌, ◌≤◌, ◌<◌, min, Bool, true, false, cond, not, eqb, List}
use Rattle.std.proofs.Common.{[], ◌∷◌, get_or, bit_or, refl, sym, ap, ap₂, subst, ◌⊎◌, inl, inr, true≢false, eqb-true}
use Rattle.std.proofs.Common.{ltb-false, arith}
use Rattle.std.proofs.lemmas.Bool.{eqb-false}
use Rattle.std.proofs.lemmas.Nat.Bits.{bit_at_and, bit_at_or, bit_at-lt, bit_at-zero}
use Rattle.std.specs.Int.{bit_at}
use Rattle.document_grammar.proofs.Booleans.{and-l, and-r, and-i, or-c, or-l, or-r, or-false, implies, either}
use Rattle.document_grammar.specs.Booleans.{◌and◌, ◌or◌}
use Rattle.document_grammar.specs.Kinds.{DOCUMENT}
use Rattle.document_grammar.specs.Tree.{Text, Tree, leaf, node, Forest, none, ◌▸◌, root}
use Rattle.grammar_machine.proofs.Checks.{subset, disjoint, entries_mask, all_entries, any_entries, row_of, all_ends}
use Rattle.grammar_machine.proofs.Checks.{exits, all_arcs, all_from, all_rows, every_state, every_arc, all_below}
use Rattle.grammar_machine.specs.Machine.{holds, fires_in, text_eq, is_leaf, at, ends, exit, arcs, has, target, dead}
use Rattle.grammar_machine.specs.Machine.{state_arcs, state_ends, state_exit, has_in, target_in, finish, walk, Ok}
use Rattle.grammar_machine.specs.Machine.{OkFrom}
use Rattle.grammar_machine.specs.Table.{State, state, Entry, entry, rows}

-- A test that holds of each number below n.
pub below-at : (t : ℕ → Bool) (n leaf_symbol : ℕ) → leaf_symbol < n → all_below n t ≡ true → t leaf_symbol ≡ true
below-at t zero leaf_symbol h e = absurd (omega arith)
below-at t (suc n) leaf_symbol h e = elim (either (eqb leaf_symbol n)) [
  | inl p ↦ subst (λ (k : ℕ). t k ≡ true) (sym (eqb-true leaf_symbol n p)) (and-l _ _ e)
  | inr p ↦ (let i : leaf_symbol ≢ n = eqb-false leaf_symbol n p in
      below-at t n leaf_symbol (omega arith) (and-r _ _ e))
]

-- Equal lists.
pub head-same : {A : Type 0} {a b : A} {v w : List A} → a ∷ v ≡ b ∷ w → a ≡ b
head-same e = cc

pub tail-same : {A : Type 0} {a b : A} {v w : List A} → a ∷ v ≡ b ∷ w → v ≡ w
tail-same e = cc

pub no-cons : {A B : Type 0} {a : B} {w : List B} → [] ≡ a ∷ w → A
no-cons e = absurd (cc)

pub text-same : (text other_text : Text) → text_eq text other_text ≡ true → text ≡ other_text
text-same [] [] h = refl
text-same (a ∷ text) (b ∷ other_text) h =
    ap₂ (λ u v. u ∷ v) (eqb-true a b (and-l _ _ h)) (text-same text other_text (and-r _ _ h))
text-same _ _ h = absurd (true≢false (sym h))

pub holds-subset : (a x y : ℕ) → subset x y ≡ true → holds a x ≡ true → holds a y ≡ true
unfolding holds
holds-subset a x y s h =
    let m : bit_at x a ≡ min (bit_at x a) (bit_at y a) = rw (eqb-true _ _ s) at (bit_at_and x y a) in
    let k : bit_at y a ≡ 1 = omega (arith, bit_at-lt y a, eqb-true _ _ h) in
    rw k refl

pub holds-disjoint : (a x y : ℕ) → disjoint x y ≡ true → holds a x ≡ true → holds a y ≡ false
unfolding holds
holds-disjoint a x y s h =
    let m : bit_at 0 a ≡ min (bit_at x a) (bit_at y a) = rw (eqb-true _ _ s) at (bit_at_and x y a) in
    let k : bit_at y a ≡ 0 = omega (arith, bit_at-zero a, eqb-true _ _ h) in
    rw k refl

pub holds-or : (a x y : ℕ) → (holds a x ≡ true) ⊎ (holds a y ≡ true) → holds a (bit_or x y) ≡ true
unfolding holds
holds-or a x y h =
    let one : (bit_at x a ≡ 1) ⊎ (bit_at y a ≡ 1) =
    elim h [ inl p ↦ inl (eqb-true _ _ p) | inr p ↦ inr (eqb-true _ _ p) ] in
    let k : bit_at (bit_or x y) a ≡ 1 = omega (arith, bit_at_or x y a, bit_at-lt x a, bit_at-lt y a) in
    rw k refl

-- Entries: where a test holds of one, and another of each, both hold of one; what follows from a test; where none
-- holds.
pub any-with : (es : List Entry) (t u : ℕ → ℕ → Bool → Bool) → all_entries es t ≡ true → any_entries es u ≡ true
    → any_entries es (λ x y alone. t x y alone and u x y alone) ≡ true
any-with [] t u h i = i
any-with (entry x y alone ∷ more) t u h i = elim (or-c _ _ i) [
  | inl p ↦ or-l _ _ (and-i (and-l _ _ h) p)
  | inr p ↦ or-r _ _
      (any-with more t u (and-r _ _ h) p)
]

pub any-entry : {C : Type 0} (es : List Entry) (t : ℕ → ℕ → Bool → Bool) → any_entries es t ≡ true
    → ((x y : ℕ) (alone : Bool) → t x y alone ≡ true → C) → C
any-entry [] t i f = absurd (true≢false (sym i))
any-entry (entry x y alone ∷ more) t i f = elim (or-c _ _ i) [ inl p ↦ f x y alone p | inr p ↦ any-entry more t p f ]

pub any-more : (es : List Entry) (t u : ℕ → ℕ → Bool → Bool) → any_entries es t ≡ true
    → ((x y : ℕ) (alone : Bool) → t x y alone ≡ true → u x y alone ≡ true) → any_entries es u ≡ true
any-more [] t u i f = i
any-more (entry x y alone ∷ more) t u i f =
    elim (or-c _ _ i) [ inl p ↦ or-l _ _ (f x y alone p) | inr p ↦ or-r _ _ (any-more more t u p f) ]

pub no-entry : (es : List Entry) (t u : ℕ → ℕ → Bool → Bool) → all_entries es t ≡ true
    → ((x y : ℕ) (alone : Bool) → t x y alone ≡ true → u x y alone ≡ false) → any_entries es u ≡ false
no-entry [] t u h f = refl
no-entry (entry x y alone ∷ more) t u h f = or-false (f x y alone (and-l _ _ h)) (no-entry more t u (and-r _ _ h) f)

-- The entries of a symbol that begin with two classes.
abbrev pub begun_by : ℕ → ℕ → ℕ → ℕ → Bool → Bool
begun_by a b x y alone = holds a x and (alone or holds b y)

pub fires-any : (es : List Entry) (a b : ℕ) → fires_in es a b ≡ any_entries es (begun_by a b)
fires-any [] a b = refl
fires-any (entry x y alone ∷ more) a b = ap (λ (c : Bool). begun_by a b x y alone or c) (fires-any more a b)

pub holds-mask : (es : List Entry) (a : ℕ) → any_entries es (λ x y alone. holds a x) ≡ true
    → holds a (entries_mask es) ≡ true
holds-mask [] a h = absurd (true≢false (sym h))
holds-mask (entry x y alone ∷ more) a h =
    holds-or a x (entries_mask more) (elim (or-c _ _ h) [ inl p ↦ inl p | inr p ↦ inr (holds-mask more a p) ])

-- Arcs.
arc-step : (a : ℕ × ℕ) (more : List (ℕ × ℕ)) (t : ℕ → ℕ → Bool) (child : ℕ) (b : Bool)
    → eqb a.0 child ≡ b → t a.0 a.1 ≡ true
    → (has_in more child ≡ true → t child (target_in more child) ≡ true) → b or has_in more child ≡ true
    → t child (cond b a.1 (target_in more child)) ≡ true
unfolding ◌or◌
arc-step a more t child true e h r i = subst (λ (n : ℕ). t n a.1 ≡ true) (eqb-true _ _ e) h
arc-step a more t child false e h r i = r i

pub arcs-at : (l : List (ℕ × ℕ)) (t : ℕ → ℕ → Bool) (child : ℕ) → all_arcs l t ≡ true → has_in l child ≡ true
    → t child (target_in l child) ≡ true
arcs-at [] t child h i = absurd (true≢false (sym i))
arcs-at (a ∷ more) t child h i =
    arc-step a more t child (eqb a.0 child) refl (and-l _ _ h) (arcs-at more t child (and-r (t a.0 a.1) _ h)) i

-- Rows.
pub zero-plus : (row_state : ℕ) → 0 + row_state ≡ row_state
zero-plus row_state = omega arith

pub all-from-at : {A : Type 0} (l : List A) (n i : ℕ) (t : ℕ → A → Bool) (d : A)
    → all_from n l t ≡ true → t (n + i) d ≡ true
    → t (n + i) (get_or l i d) ≡ true
all-from-at [] n i t d h e = e
all-from-at (x ∷ more) n zero t d h e = let z : n + 0 ≡ n = omega arith in rw z (and-l _ _ h)
all-from-at (x ∷ more) n (suc i) t d h e = let z : n + suc i ≡ suc n + i = omega arith in
    rw z (all-from-at more (suc n) i t d (and-r _ _ h) (rw z at e))

node-sum : (symbol : ℕ) → is_leaf symbol ≡ false → DOCUMENT + (symbol - DOCUMENT) ≡ symbol
unfolding is_leaf
node-sum symbol h = let document : DOCUMENT ≤ symbol = ltb-false _ _ h in omega arith

pub state-test : (t : ℕ → ℕ → State → Bool) → every_state t ≡ true
    → ((symbol row_state : ℕ) → t symbol row_state dead ≡ true) → (symbol row_state : ℕ)
    → is_leaf symbol ≡ false → t symbol row_state (at symbol row_state) ≡ true
unfolding at
state-test t h d s row_state l =
    let row : List State = get_or rows (s - DOCUMENT) [] in
    let r : all_from 0 row (t s) ≡ true = subst (λ (n : ℕ). all_from 0 row (t n) ≡ true) (node-sum s l)
    (all-from-at rows DOCUMENT (s - DOCUMENT) (λ s r. all_from 0 r (t s)) [] h refl) in
    subst (λ (n : ℕ). t s n (get_or row row_state dead) ≡ true) (zero-plus row_state)
    (all-from-at row 0 row_state (t s) dead r (d s (0 + row_state)))

pub row-test : (t : ℕ → State → Bool) → all_rows DOCUMENT rows t ≡ true → ((child : ℕ) → t child dead ≡ true)
    → (symbol row_state : ℕ) → is_leaf symbol ≡ false
    → t symbol (at symbol row_state) ≡ true
row-test t h d s q l = state-test (λ s q v. t s v) h (λ s q. d s) s q l

pub arc-test : (t : ℕ → ℕ → ℕ → Bool) → every_arc t ≡ true → (symbol row_state child : ℕ) → is_leaf symbol ≡ false
    → has symbol row_state child ≡ true
    → t symbol child (target symbol row_state child) ≡ true
unfolding has target arcs
arc-test t h s q child l i =
    arcs-at (arcs s q) (t s) child (state-test (λ s q v. all_arcs (state_arcs v) (t s)) h (λ s q. refl) s q l) i

-- The exit with which a tree ends.
ends-at : (l : List State) (t : ℕ → Bool) (row_state : ℕ) → all_ends l t ≡ true
    → state_ends (get_or l row_state dead) ≡ true
    → t (state_exit (get_or l row_state dead)) ≡ true
ends-at [] t row_state h e = absurd (true≢false (sym e))
ends-at (state b x a ∷ more) t zero h e = implies b (t x) (and-l _ _ h) e
ends-at (state b x a ∷ more) t (suc q) h e = ends-at more t q (and-r (not b or t x) _ h) e

pub walk-ends : (symbol row_state : ℕ) (forest : Forest) → OkFrom symbol row_state forest
    → ends symbol (walk symbol row_state forest) ≡ true
walk-ends symbol row_state none ok_from = ok_from
walk-ends symbol row_state (tree ▸ forest) ok_from =
    walk-ends symbol (target symbol row_state (root tree) + finish tree) forest ok_from.2

ends-exit : (symbol row_state : ℕ) (t : ℕ → Bool) → all_ends (row_of symbol) t ≡ true → ends symbol row_state ≡ true
    → t (exit symbol row_state) ≡ true
unfolding ends exit at row_of
ends-exit symbol row_state t h e = ends-at (get_or rows (symbol - DOCUMENT) []) t row_state h e

pub exits-at : (tree : Tree) (t : ℕ → Bool) → exits (root tree) t ≡ true → Ok tree → t (finish tree) ≡ true
unfolding exits
exits-at (leaf leaf_symbol text) t h ok =
    subst (λ (b : Bool). cond b (t 0) (all_ends (row_of leaf_symbol) t) ≡ true) ok.0 h
exits-at (node symbol forest) t h ok =
    ends-exit symbol (walk symbol 0 forest) t
    (subst (λ (b : Bool). cond b (t 0) (all_ends (row_of symbol) t) ≡ true) ok.0 h)
    (walk-ends symbol 0 forest ok.1)
