-- What a row says of a node's children.
use Rattle.std.proofs.Common.{◌≡◌, ℕ, ◌<◌, ◌≤◌, inl, inr, Bool, true, eqb, ltb, leb, List, [], ◌∷◌, ◌++◌, refl, sym}
use Rattle.std.proofs.Common.{subst, arith, eqb-true, leb-true, ltb-true, true≢false}
use Rattle.std.proofs.lemmas.Bool.{and_parts, and_from, cases_Bool}
use Rattle.std.specs.List.{list_all}
use Rattle.std.specs.Prelude.{◌&&◌, IsTrue}
use Rattle.document_grammar.specs.Derivation.{LeafRule, Listed}
use Rattle.document_grammar.specs.Kinds.{DOCUMENT, words}
use Rattle.document_grammar.specs.Pattern.{Pattern, any_of, nothing, ◌then◌, ◌or_else◌, many, member, Repeats, stop}
use Rattle.document_grammar.specs.Pattern.{again, Matches}
use Rattle.document_grammar.specs.Rows.{Row, row_in, children}
use Rattle.document_grammar.specs.Tree.{Text}

-- all kinds of a pattern pass a test
abbrev pub all_pass : (ℕ → Bool) → Pattern → Bool
all_pass t (any_of ks) = list_all t ks
all_pass t nothing = true
all_pass t (p then q) = all_pass t p && all_pass t q
all_pass t (p or_else q) = all_pass t p && all_pass t q
all_pass t (many p) = all_pass t p

all-append : (t : ℕ → Bool) (u v : List ℕ) → list_all t u ≡ true → list_all t v ≡ true → list_all t (u ++ v) ≡ true
all-append t [] v a b = b
all-append t (k ∷ u) v a b = let q = and_parts (t k) (list_all t u) a in and_from _ _ q.0 (all-append t u v q.1 b)

pub member-passes : (t : ℕ → Bool) (ks : List ℕ) (k : ℕ) → list_all t ks ≡ true → IsTrue (member k ks) → t k ≡ true
unfolding member
member-passes t [] k h m = absurd (true≢false (sym m))
member-passes t (a ∷ ks) k h m =
    let q = and_parts (t a) (list_all t ks) h in
    elim (cases_Bool (eqb a k)) [
      | inl e ↦ subst (λ n. t n ≡ true) (eqb-true a k e) q.0
      | inr e ↦ member-passes t ks k q.1 (rw e at m)
    ]

repeated-pass : (t : ℕ → Bool) (P : List ℕ → Type 0) → ((u : List ℕ) → P u → list_all t u ≡ true) → (w : List ℕ)
    → Repeats P w → list_all t w ≡ true
repeated-pass t P h w stop = refl
repeated-pass t P h w (again {u = u} {v = v} a r e) =
    subst (λ l. list_all t l ≡ true) (sym e) (all-append t u v (h u a) (repeated-pass t P h v r))

pub matched-pass : (t : ℕ → Bool) (p : Pattern) (w : List ℕ) → all_pass t p ≡ true → Matches p w → list_all t w ≡ true
matched-pass t (any_of ks) w h m =
    subst (λ l. list_all t l ≡ true) (sym m.2) (and_from _ _ (member-passes t ks m.0 h m.1) refl)
matched-pass t nothing w h m = subst (λ l. list_all t l ≡ true) (sym m) refl
matched-pass t (p then q) w h m =
    let c = and_parts (all_pass t p) (all_pass t q) h in
    subst (λ l. list_all t l ≡ true) (sym m.2)
    (all-append t m.0 m.1 (matched-pass t p m.0 c.0 m.3) (matched-pass t q m.1 c.1 m.4))
matched-pass t (p or_else q) w h m =
    let c = and_parts (all_pass t p) (all_pass t q) h in
    elim m [ inl a ↦ matched-pass t p w c.0 a | inr b ↦ matched-pass t q w c.1 b ]
matched-pass t (many p) w h m = repeated-pass t (Matches p) (λ u a. matched-pass t p u h a) w m

-- a test of each kind in each row
abbrev pub rows_pass : (ℕ → ℕ → Bool) → List (ℕ × Pattern) → Bool
rows_pass t [] = true
rows_pass t (row ∷ more) = all_pass (t row.0) row.1 && rows_pass t more

pub row-passes : (t : ℕ → ℕ → Bool) (rows : List (ℕ × Pattern)) (k : ℕ) (w : List ℕ) → rows_pass t rows ≡ true
    → Matches (row_in rows k) w
    → list_all (t k) w ≡ true
unfolding member
row-passes t [] k w h m = absurd (true≢false (sym m.1))
row-passes t (row ∷ more) k w h m =
    let c = and_parts (all_pass (t row.0) row.1) (rows_pass t more) h in
    elim (cases_Bool (eqb row.0 k)) [
      | inl e ↦
          let there : Matches row.1 w = rw e at m in
          subst (λ n. list_all (t n) w ≡ true) (eqb-true row.0 k e) (matched-pass (t row.0) row.1 w c.0 there)
      | inr e ↦ (let there : Matches (row_in more k) w = rw e at m in row-passes t more k w c.1 there)
    ]

-- ---- leaves and nodes

pub no-row : (k : ℕ) (w : List ℕ) → Row k ≡ any_of [] → Matches (Row k) w → ⊥
unfolding member
no-row k w e m = let there : Matches (any_of []) w = subst (λ p. Matches p w) e m in true≢false (sym there.1)

pub listed-passes : (ws : List (ℕ × Text)) (t : ℕ → Text → Bool) (k : ℕ) (x : Text)
    → list_all (λ w. t w.0 w.1) ws ≡ true → Listed ws k x → t k x ≡ true
listed-passes [] t k x h l = absurd l
listed-passes (w ∷ more) t k x h l =
    let c = and_parts (t w.0 w.1) (list_all (λ w. t w.0 w.1) more) h in
    elim l [
      | inl e ↦ subst (λ n. t n x ≡ true) e.0 (subst (λ y. t w.0 y ≡ true) e.1 c.0)
      | inr r ↦ listed-passes more t k x c.1 r
    ]

words-below : list_all (λ (w : ℕ × Text). ltb w.0 DOCUMENT) words ≡ true
unfolding words
words-below = refl

pub no-leaf : (k : ℕ) (x : Text) → DOCUMENT ≤ k → LeafRule k x → ⊥
no-leaf k x le rule =
    let below : k < DOCUMENT =
    ltb-true k DOCUMENT (listed-passes words (λ n y. ltb n DOCUMENT) k x words-below (rule (omega arith))) in
    omega arith

-- no row belongs to a leaf's kind
rows-nodes : list_all (λ (row : ℕ × Pattern). leb DOCUMENT row.0) children ≡ true
rows-nodes = refl

low-row-in : (rows : List (ℕ × Pattern)) (k : ℕ) → list_all (λ (row : ℕ × Pattern). leb DOCUMENT row.0) rows ≡ true
    → k < DOCUMENT → row_in rows k ≡ any_of []
low-row-in [] k h less = refl
low-row-in (row ∷ more) k h less =
    let q = and_parts (leb DOCUMENT row.0) (list_all (λ (r : ℕ × Pattern). leb DOCUMENT r.0) more) h in
    elim (cases_Bool (eqb row.0 k)) [
      | inl e ↦ (let same : row.0 ≡ k = eqb-true row.0 k e in let le : DOCUMENT ≤ row.0 = leb-true DOCUMENT row.0 q.0 in
          absurd (omega arith))
      | inr e ↦ rw e (low-row-in more k q.1 less)
    ]

pub low-row : (k : ℕ) → k < DOCUMENT → Row k ≡ any_of []
unfolding Row
low-row k less = low-row-in children k rows-nodes less
