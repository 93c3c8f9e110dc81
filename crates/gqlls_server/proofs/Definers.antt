-- The document whose definition of a name counts: the first of those that are left.
use Rattle.std.proofs.Common.{◌≡◌, ℕ, ◌<◌, ◌≤◌, suc, Bool, true, false, List, ◌∷◌, length, map, drop, get_or, Option}
use Rattle.std.proofs.Common.{Some, None, ap, refl, sym, ◌∙◌}
use Rattle.std.proofs.Math.Seq.{drop-cons}
use Rattle.std.proofs.lemmas.List.{drop_all}
use Rattle.std.specs.List.{find}
use Rattle.std.specs.Prelude.{if◌then◌else◌}

-- the document's own definition counts where there is one
pub own_counts : (own : Bool) (uri : List ℕ) (other : Option (List ℕ)) → own ≡ true
    → Some uri ≡ (if own then Some uri else other)
own_counts true uri other is = refl
own_counts false uri other is = absurd (cc)

-- and else another's
pub other_counts : (own : Bool) (uri : List ℕ) (other found : Option (List ℕ)) → own ≡ false → found ≡ other
    → found ≡ (if own then Some uri else other)
other_counts true uri other found is same = absurd (cc)
other_counts false uri other found is same = same

module _ {X Y : Type 0} (test : Y → Bool) (f : X → Y) where
  first_passes : (y : Y) (ys : List Y) → test y ≡ true → find test (y ∷ ys) ≡ Some y
  first_passes y ys passes = rw passes refl

  -- the first one that is left passes the test, so it is found
  pub found_at : (xs : List X) (i : ℕ) (x : X) → i < length xs → x ≡ get_or xs i x → test (f x) ≡ true
      → find test (map f (drop i xs)) ≡ Some (f x)
  found_at xs i x below is passes =
      ap (λ (rest : List X). find test (map f rest)) (drop-cons xs i x below)
      ∙ ap (λ (y : X). find test (f y ∷ map f (drop (suc i) xs))) (sym is)
      ∙ first_passes (f x) (map f (drop (suc i) xs)) passes

  -- none is left
  pub none_left : (xs : List X) (i : ℕ) → length xs ≤ i → find test (map f (drop i xs)) ≡ None
  none_left xs i past = ap (λ (rest : List X). find test (map f rest)) (drop_all i xs past)
