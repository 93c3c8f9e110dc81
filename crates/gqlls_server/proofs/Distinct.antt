-- Documents of which no two have the same name.
use Rattle.std.proofs.Common.{◌≡◌, ◌≢◌, ◌++◌, ◌∙◌, suc, zero, true, false, List, [], ◌∷◌, Less, String, ap, arith}
use Rattle.std.proofs.Common.{is_eq, map, string_bytes, string_cmp, sym}
use Rattle.std.proofs.lemmas.List.Elements.{All-append, All-cons, All-map}
use Rattle.std.proofs.lemmas.List.Kept.{AllPairs-cons}
use Rattle.std.proofs.lemmas.Map.Text.{is_eq-slice_cmp}
use Rattle.std.proofs.lemmas.Slice.Eq.{bytes_eq-Decides}
use Rattle.std.specs.List.{All, AllByRecursion, AllPairs}
use Rattle.std.specs.List.Sorted.{IsStrictlySortedBy}

-- ---- pairs of a list's elements

module _ {X : Type 0} (R : X → X → Type 0) where
  first_to_all : (x : X) (xs : List X) → AllPairs R (x ∷ xs) → All (R x) xs
  first_to_all x xs h = λ k d below. h zero (suc k) d (omega arith) (omega arith)

  among_rest : (x : X) (xs : List X) → AllPairs R (x ∷ xs) → AllPairs R xs
  among_rest x xs h = λ i j d before below. h (suc i) (suc j) d (omega arith) (omega arith)

  pub pairs_append : (xs ys : List X) → AllPairs R xs → AllPairs R ys → All (λ x. All (R x) ys) xs
      → AllPairs R (xs ++ ys)
  pairs_append [] ys one two across = two
  pairs_append (x ∷ xs) ys one two across =
      AllPairs-cons R x (xs ++ ys) (All-append (R x) xs ys (first_to_all x xs one) (across 0 x (omega arith)))
      (pairs_append xs ys (among_rest x xs one) two (λ k d below. across (suc k) d (omega arith)))

  pub pairs_map : {Y : Type 0} (f : Y → X) (ys : List Y) → AllPairs (λ a b. R (f a) (f b)) ys → AllPairs R (map f ys)
  pairs_map f [] h = λ i j d before below. absurd (omega arith)
  pairs_map f (y ∷ ys) h =
      AllPairs-cons R (f y) (map f ys)
      (All-map (R (f y)) f ys (λ k d below. h zero (suc k) d (omega arith) (omega arith)))
      (pairs_map f ys (λ i j d before below. h (suc i) (suc j) d (omega arith) (omega arith)))

-- ---- names in order

differ : {A : Type 0} (a b : String A) → string_cmp a b ≡ Less → string_bytes a ≢ string_bytes b
differ a b less = λ same.
    (let no : false ≡ true =
    sym (ap is_eq less) ∙ is_eq-slice_cmp (string_bytes a) (string_bytes b)
    ∙ (bytes_eq-Decides (string_bytes a) (string_bytes b)).1 same in cc no)

differ_from : {A X : Type 0} (name : String A) (entries : List (String A × X))
    → AllByRecursion (λ y. string_cmp name y ≡ Less) (map (λ (e : String A × X). e.0) entries)
    → All (λ (e : String A × X). string_bytes name ≢ string_bytes e.0) entries
differ_from name [] h = λ k d below. absurd (omega arith)
differ_from {A = A} {X = X} name (e ∷ entries) h =
    All-cons (λ (e : String A × X). string_bytes name ≢ string_bytes e.0) e entries (differ name e.0 h.0)
    (differ_from name entries h.1)

-- the names of a map's entries differ
pub names_differ : {A X : Type 0} (entries : List (String A × X))
    → IsStrictlySortedBy string_cmp (map (λ (e : String A × X). e.0) entries)
    → AllPairs (λ (a b : String A × X). string_bytes a.0 ≢ string_bytes b.0) entries
unfolding IsStrictlySortedBy
names_differ [] h = λ i j d before below. absurd (omega arith)
names_differ {A = A} {X = X} (e ∷ entries) h =
    AllPairs-cons (λ (a b : String A × X). string_bytes a.0 ≢ string_bytes b.0) e entries (differ_from e.0 entries h.0)
    (names_differ entries h.1)
