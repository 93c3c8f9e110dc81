-- Numbers below a bound, none of them twice, are no more than the bound.
use Rattle.std.proofs.Common.{◌≡◌, ◌≢◌, ℕ, ◌<◌, ◌≤◌, List, length, get_or, eqb, true, arith, eqb-true}
use Rattle.std.proofs.lemmas.Bool.Decides.{Decides-eqb}
use Rattle.std.proofs.lemmas.List.{get_or_default}
use Rattle.std.proofs.lemmas.Map.Made.{IsDistinct-from_AllPairs}
use Rattle.std.proofs.lemmas.Map.Steps.{length-le_from_distinct_below}
use Rattle.std.proofs.lemmas.Map.Views.{Contains-from_any}
use Rattle.std.specs.List.{AllPairs, Contains, IsDistinct, list_any}

pub no_more_below :
    (xs : List ℕ) (n : ℕ) → ((i j : ℕ) → i < j → j < length xs → ¬ (get_or xs i 0 ≡ get_or xs j 0))
    → ((x : ℕ) → Contains xs x → x < n)
    → length xs ≤ n
no_more_below xs n apart below =
    length-le_from_distinct_below xs n (IsDistinct-from_AllPairs Decides-eqb xs distinct)
    (λ q is. below q (Contains-from_any (λ x y e. eqb-true x y e) q xs is))
  where
    distinct : AllPairs (λ x y. x ≢ y) xs
    distinct i j d less inside same =
        let a = get_or_default xs i 0 d (omega arith) in
        let b = get_or_default xs j 0 d inside in
        apart i j less inside (rw (a, b) same)
