-- What texts begin with that are added to.
use Rattle.std.proofs.Common.{◌≡◌, ◌∙◌, ◌<◌, ◌+◌, ℕ, zero, suc, List, [], ◌∷◌, ◌++◌, length, take, get_or}
use Rattle.std.proofs.Common.{refl, ap, subst, append_assoc, arith}
use Rattle.marked_lines.specs.Places.{BeginsWith, OfFirst}

-- what a beginning of a text begins with
pub begins_through : (text middle front : List ℕ) → BeginsWith text middle → BeginsWith middle front
    → BeginsWith text front
begins_through text middle front later first = record {
  rest = first.rest ++ later.rest;
  is = later.is ∙ ap (λ (t : List ℕ). t ++ later.rest) first.is ∙ append_assoc front first.rest later.rest;
}

-- a part was added
pub begins_added : (text middle part : List ℕ) → text ≡ middle ++ part → BeginsWith text middle
begins_added text middle part added = record { rest = part; is = added }

-- the same where more was added later
pub begins_part : (text longer middle part : List ℕ) → longer ≡ middle ++ part → BeginsWith text longer
    → BeginsWith text middle
begins_part text longer middle part added later =
    begins_through text longer middle later (begins_added longer middle part added)

-- ---- texts made of items

-- One item is added. If it is the first, it is put into an empty text; what held of the first before still does.
pub of_first_more : {X : Type 0} (P : X → List ℕ → Type 0) (xs : List X) (i : ℕ) (d : X) (old new : List ℕ)
    → i < length xs → (i ≡ 0 → old ≡ [])
    → OfFirst (λ x. P x old) (take i xs) → ((x : X) → P x old → P x new) → (old ≡ [] → P (get_or xs i d) new)
    → OfFirst (λ x. P x new) (take (i + 1) xs)
of_first_more P [] i d old new inside none so_far stays first = absurd (omega (arith, inside))
of_first_more P (x ∷ xs) zero d old new inside none so_far stays first = first (none refl)
of_first_more P (x ∷ xs) (suc i) d old new inside none so_far stays first =
    let more : suc (suc i) ≡ suc i + 1 = omega arith in
    subst (λ (n : ℕ). OfFirst (λ y. P y new) (take n (x ∷ xs))) more (stays x so_far)

-- the same where each item has a front of its own
pub of_first_front : {X : Type 0} (front : X → List ℕ) (xs : List X) (i : ℕ) (d : X) (old new : List ℕ)
    → i < length xs → (i ≡ 0 → old ≡ [])
    → OfFirst (λ x. BeginsWith old (front x)) (take i xs) → BeginsWith new (old ++ front (get_or xs i d))
    → OfFirst (λ x. BeginsWith new (front x)) (take (i + 1) xs)
of_first_front front xs i d old new inside none so_far added =
    of_first_more (λ x text. BeginsWith text (front x)) xs i d old new inside none so_far
    (λ x first. begins_through new old (front x) (begins_through new _ old added (begins_added _ old _ refl)) first)
    (λ empty. subst (λ (text : List ℕ). BeginsWith new (text ++ front (get_or xs i d))) empty added)

pub of_first_kept : {X : Type 0} (P : X → List ℕ → Type 0) (xs : List X) (old new : List ℕ) → OfFirst (λ x. P x old) xs
    → ((x : X) → P x old → P x new) → OfFirst (λ x. P x new) xs
of_first_kept P [] old new so_far stays = so_far
of_first_kept P (x ∷ xs) old new so_far stays = stays x so_far
