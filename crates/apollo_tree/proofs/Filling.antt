-- Items that are written to a buffer one after another, as far as there is room.
use Rattle.std.proofs.Common.{◌≡◌, ◌∙◌, ◌<◌, ◌+◌, ap, sym, ℕ, zero, suc, min, List, [], ◌∷◌, ◌++◌, length, take, drop}
use Rattle.std.proofs.Common.{set, get_or, refl, arith}
use Rattle.std.proofs.lemmas.List.{take-append-drop}
use Rattle.apollo_tree.specs.Filled.{filled}

pub filled-by-none : {A : Type 0} (buffer : List A) → filled buffer [] ≡ buffer
filled-by-none [] = refl
filled-by-none (b ∷ bs) = refl

-- one more item is written
pub filled-by-one-more : {A : Type 0} (buffer items : List A) (i j : ℕ) (d : A) → j ≡ i + 1
    → i < length buffer → i < length items
    → set (filled buffer (take i items)) i (get_or items i d) ≡ filled buffer (take j items)
filled-by-one-more [] items i j d e l k = absurd (omega arith)
filled-by-one-more (b ∷ bs) [] i j d e l k = absurd (omega arith)
filled-by-one-more (b ∷ bs) (x ∷ xs) zero j d e l k = rw e (ap (λ r. x ∷ r) (sym (filled-by-none bs)))
filled-by-one-more (b ∷ bs) (x ∷ xs) (suc i) zero d e l k = absurd (omega arith)
filled-by-one-more (b ∷ bs) (x ∷ xs) (suc i) (suc j) d e l k =
    ap (λ r. x ∷ r) (filled-by-one-more bs xs i j d (omega arith) (omega arith) (omega arith))

pub no-room : {A : Type 0} (items : List A) → filled [] items ≡ []
no-room [] = refl
no-room (x ∷ xs) = refl

-- the buffer is filled when as many are written as there is room for, or all
pub filled-as-far : {A : Type 0} (buffer items : List A) (n : ℕ) → n ≡ min (length items) (length buffer)
    → filled buffer (take n items) ≡ filled buffer items
filled-as-far [] items n e = no-room (take n items) ∙ sym (no-room items)
filled-as-far (b ∷ bs) [] zero e = refl
filled-as-far (b ∷ bs) [] (suc n) e = refl
filled-as-far (b ∷ bs) (x ∷ xs) zero e = absurd (omega (arith, e))
filled-as-far (b ∷ bs) (x ∷ xs) (suc n) e = ap (λ r. x ∷ r) (filled-as-far bs xs n (omega (arith, e)))

-- the buffer is filled in two parts
pub filled-in-two : {A : Type 0} (buffer items : List A) (h w : ℕ) → w ≡ min h (length buffer)
    → filled (take w buffer) (take h items) ++ filled (drop w buffer) (drop h items) ≡ filled buffer items
filled-in-two [] items h zero e = rw (no-room (take h items)) (rw (no-room (drop h items)) (sym (no-room items)))
filled-in-two [] items h (suc w) e = absurd (omega (arith, e))
filled-in-two (b ∷ bs) items zero zero e = refl
filled-in-two (b ∷ bs) items zero (suc w) e = absurd (omega (arith, e))
filled-in-two (b ∷ bs) items (suc h) zero e = absurd (omega (arith, e))
filled-in-two (b ∷ bs) [] (suc h) (suc w) e =
    ap (λ r. b ∷ r) (ap (λ r. take w bs ++ r) (filled-by-none (drop w bs)) ∙ take-append-drop w bs)
filled-in-two (b ∷ bs) (x ∷ xs) (suc h) (suc w) e = ap (λ r. x ∷ r) (filled-in-two bs xs h w (omega (arith, e)))
