-- What holds of each two items of a list, and of those of a list made from it.
use Rattle.std.proofs.Common.{⊎_elim, ◌++◌, ◌≡◌, ℕ, zero, suc, ◌+◌, ◌<◌, ◌≤◌, List, [], ◌∷◌, map, get_or, Option, Some}
use Rattle.std.proofs.Common.{None, arith, refl}
use Rattle.std.proofs.lemmas.List.Elements.{Contains-append_cases, Contains-get_or}
use Rattle.std.proofs.lemmas.List.Kept.{AllPairs-cons}
use Rattle.std.specs.List.{AllPairs, Contains, cons_option, filter_map, flat_map, range_with_len}
use Rattle.validation_names.proofs.Lists.{in_filter_map}

module _ {A : Type 0} (R : A → A → Type 0) (x : A) (xs : List A) (h : AllPairs R (x ∷ xs)) where
  pub first_pairs : (y : A) → Contains xs y → R x y
  first_pairs y (k, below, is) = rw is at (h 0 (suc k) y (omega arith) (omega arith))

  pub later_pairs : AllPairs R xs
  later_pairs i j d less below = h (suc i) (suc j) d (omega arith) (omega arith)

pub pairs_none : {A : Type 0} (R : A → A → Type 0) → AllPairs R []
pairs_none R i j d less below = absurd (omega arith)

pub in_map : {A B : Type 0} (g : A → B) (xs : List A) (y : B) → Contains (map g xs) y
    → (x : A) × Contains xs x × (g x ≡ y)
in_map g [] y (k, below, is) = absurd (omega arith)
in_map g (x ∷ xs) y (zero, below, is) = (x, (0, omega arith, refl), is)
in_map g (x ∷ xs) y (suc k, below, is) =
    let (z, (j, inside, at), e) = in_map g xs y (k, omega arith, is) in
    (z, (suc j, omega arith, at), e)

pub pairs_map : {A B : Type 0} (R : A → A → Type 0) (S : B → B → Type 0) (g : A → B)
    → ((x y : A) → R x y → S (g x) (g y)) → (xs : List A) → AllPairs R xs
    → AllPairs S (map g xs)
pairs_map R S g to [] h = pairs_none S
pairs_map R S g to (x ∷ xs) h =
    AllPairs-cons S (g x) (map g xs)
    (λ k d below.
    let (y, there, e) = in_map g xs (get_or (map g xs) k d) (Contains-get_or (map g xs) k d below) in
    rw e at (to x y (first_pairs R x xs h y there)))
    (pairs_map R S g to xs (later_pairs R x xs h))

cons_pairs : {A B : Type 0} (R : A → A → Type 0) (S : B → B → Type 0) (f : A → Option B)
    → ((x y : A) (a b : B) → R x y → f x ≡ Some a → f y ≡ Some b → S a b) → (x : A) (xs : List A) → AllPairs R (x ∷ xs)
    → AllPairs S (filter_map f xs) → (o : Option B) → f x ≡ o → AllPairs S (cons_option o (filter_map f xs))
cons_pairs R S f to x xs h rest None e = rest
cons_pairs R S f to x xs h rest (Some a) e =
    AllPairs-cons S a (filter_map f xs)
    (λ k d below.
    let (y, there, at) = in_filter_map f xs (get_or (filter_map f xs) k d)
    (Contains-get_or (filter_map f xs) k d below) in
    to x y a (get_or (filter_map f xs) k d) (first_pairs R x xs h y there) e at)
    rest

pub pairs_filter_map : {A B : Type 0} (R : A → A → Type 0) (S : B → B → Type 0) (f : A → Option B)
    → ((x y : A) (a b : B) → R x y → f x ≡ Some a → f y ≡ Some b → S a b) → (xs : List A) → AllPairs R xs
    → AllPairs S (filter_map f xs)
pairs_filter_map R S f to [] h = pairs_none S
pairs_filter_map R S f to (x ∷ xs) h =
    cons_pairs R S f to x xs h (pairs_filter_map R S f to xs (later_pairs R x xs h)) (f x) refl

from_start : (a n k : ℕ) → Contains (range_with_len a n) k → a ≤ k
from_start a zero k (i, below, is) = absurd (omega arith)
from_start a (suc n) k (zero, below, is) = let e : a ≡ k = is in omega arith
from_start a (suc n) k (suc i, below, is) = let l = from_start (a + 1) n k (i, omega arith, is) in omega arith

pub range_rises : (a n : ℕ) → AllPairs (λ x y. x < y) (range_with_len a n)
range_rises a zero = pairs_none (λ x y. x < y)
range_rises a (suc n) =
    AllPairs-cons (λ x y. x < y) a (range_with_len (a + 1) n)
    (λ k d below.
    let l = from_start (a + 1) n (get_or (range_with_len (a + 1) n) k d)
    (Contains-get_or (range_with_len (a + 1) n) k d below) in
    omega arith)
    (range_rises (a + 1) n)

-- ---- lists made of lists
later : {A : Type 0} (x y : A) (xs : List A) → Contains xs y → Contains (x ∷ xs) y
later x y xs (k, below, is) = (suc k, omega arith, is)

pub pairs_append : {A : Type 0} (R : A → A → Type 0) (xs ys : List A) → AllPairs R xs → AllPairs R ys
    → ((x y : A) → Contains xs x → Contains ys y → R x y) → AllPairs R (xs ++ ys)
pairs_append R [] ys first second apart = second
pairs_append {A} R (x ∷ xs) ys first second apart =
    AllPairs-cons R x (xs ++ ys)
    (λ k d below.
    ⊎_elim
    (λ (at : Contains xs (get_or (xs ++ ys) k d)). first_pairs R x xs first (get_or (xs ++ ys) k d) at)
    (λ (at : Contains ys (get_or (xs ++ ys) k d)). apart x (get_or (xs ++ ys) k d) (0, omega arith, refl) at)
    (Contains-append_cases xs ys (get_or (xs ++ ys) k d) (Contains-get_or (xs ++ ys) k d below)))
    (pairs_append R xs ys (later_pairs R x xs first) second (λ z y there. apart z y (later x z xs there)))

pub in_flat_map : {A B : Type 0} (f : A → List B) (xs : List A) (y : B) → Contains (flat_map f xs) y
    → (x : A) × Contains xs x × Contains (f x) y
in_flat_map f [] y (k, below, is) = absurd (omega arith)
in_flat_map f (x ∷ xs) y there =
    ⊎_elim
    (λ (first : Contains (f x) y). (x, (0, omega arith, refl), first))
    (λ (rest : Contains (flat_map f xs) y). let at = in_flat_map f xs y rest in (at.0, later x at.0 xs at.1, at.2))
    (Contains-append_cases (f x) (flat_map f xs) y there)

pub pairs_flat_map : {A B : Type 0} (S : A → A → Type 0) (R : B → B → Type 0) (f : A → List B) (xs : List A)
    → AllPairs S xs
    → ((x : A) → Contains xs x → AllPairs R (f x))
    → ((x y : A) → Contains xs x → Contains xs y → S x y → (a b : B) → Contains (f x) a → Contains (f y) b → R a b)
    → AllPairs R (flat_map f xs)
pairs_flat_map S R f [] pairs each apart = pairs_none R
pairs_flat_map S R f (x ∷ xs) pairs each apart =
    pairs_append R (f x) (flat_map f xs)
    (each x (0, omega arith, refl))
    (pairs_flat_map S R f xs (later_pairs S x xs pairs) (λ y there. each y (later x y xs there))
    (λ y z at_y at_z. apart y z (later x y xs at_y) (later x z xs at_z)))
    (λ a b at_a at_b.
    let (y, there, has) = in_flat_map f xs b at_b in
    apart x y (0, omega arith, refl) (later x y xs there) (first_pairs S x xs pairs y there) a b at_a has)
