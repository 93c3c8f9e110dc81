-- Items that are written to a buffer one after another, as far as there is room.
use Rattle.std.proofs.Common.{◌≡◌, ◌∙◌, ◌≤◌, ◌<◌, ◌-◌, ap, sym, ℕ, zero, suc, min, List, [], ◌∷◌, ◌++◌, length, take}
use Rattle.std.proofs.Common.{drop, set, refl, arith}
use borrow.Rule.Slice.PartMut.{put_mid}
use Rattle.apollo_tree.proofs.Filling.{filled-by-none, no-room}
use Rattle.apollo_parser.specs.Filled.{filled}

pub length-filled : {A : Type 0} (buffer items : List A) → length (filled buffer items) ≡ length buffer
length-filled [] [] = refl
length-filled [] (x ∷ xs) = refl
length-filled (b ∷ bs) [] = refl
length-filled (b ∷ bs) (x ∷ xs) = ap suc (length-filled bs xs)

written-first : {A : Type 0} (buffer items : List A) (n : ℕ) → n ≡ min (length items) (length buffer)
    → take n items ++ drop n buffer ≡ filled buffer items
written-first [] [] n e = let none : n ≡ 0 = omega (arith, e) in rw none refl
written-first [] (x ∷ xs) n e = let none : n ≡ 0 = omega (arith, e) in rw none refl
written-first (b ∷ bs) [] n e = let none : n ≡ 0 = omega (arith, e) in rw none refl
written-first (b ∷ bs) (x ∷ xs) zero e = absurd (omega (arith, e))
written-first (b ∷ bs) (x ∷ xs) (suc n) e = ap (λ r. x ∷ r) (written-first bs xs n (omega (arith, e)))

written-after : {A : Type 0} (buffer items more : List A) (at n : ℕ) → at ≡ length items
    → n ≡ min (length more) (length buffer - at) → at ≤ length buffer
    → put_mid at n (filled buffer items) (take n more) ≡ filled buffer (items ++ more)
written-after buffer [] more zero n a e l = rw (filled-by-none buffer) (written-first buffer more n (omega (arith, e)))
written-after buffer [] more (suc at) n a e l = absurd (omega (arith, a))
written-after [] (x ∷ xs) more at n a e l = absurd (omega (arith, a, l))
written-after (b ∷ bs) (x ∷ xs) more zero n a e l = absurd (omega (arith, a))
written-after (b ∷ bs) (x ∷ xs) more (suc at) n a e l =
    ap (λ r. x ∷ r) (written-after bs xs more at n (omega (arith, a)) (omega (arith, e)) (omega (arith, l)))

-- more items are written after those that were
pub filled-after : {A : Type 0} (buffer items more old part : List A) (at n : ℕ) → old ≡ filled buffer items
    → part ≡ take n more → at ≡ length items
    → n ≡ min (length more) (length old - at) → at ≤ length old → put_mid at n old part ≡ filled buffer (items ++ more)
filled-after buffer items more old part at n o p a e l =
    let same : length old ≡ length buffer = ap length o ∙ length-filled buffer items in
    rw (o, p) (written-after buffer items more at n a (omega (arith, e, same)) (omega (arith, l, same)))

-- ---- one more item, wherever those before it ended

one-more : {A : Type 0} (buffer items : List A) (x : A) → length items < length buffer
    → set (filled buffer items) (length items) x ≡ filled buffer (items ++ x ∷ [])
one-more [] items x l = absurd (omega arith)
one-more (b ∷ bs) [] x l = ap (λ r. x ∷ r) (sym (filled-by-none bs))
one-more (b ∷ bs) (y ∷ ys) x l = ap (λ r. y ∷ r) (one-more bs ys x (omega arith))

full : {A : Type 0} (buffer items : List A) (x : A) → length buffer ≤ length items
    → filled buffer items ≡ filled buffer (items ++ x ∷ [])
full [] items x l = no-room items ∙ sym (no-room (items ++ x ∷ []))
full (b ∷ bs) [] x l = absurd (omega arith)
full (b ∷ bs) (y ∷ ys) x l = ap (λ r. y ∷ r) (full bs ys x (omega arith))

pub put-one : {A : Type 0} (before written old : List A) (at : ℕ) (x : A) → length written ≡ at
    → old ≡ filled before written → at < length old
    → set old at x ≡ filled before (written ++ x ∷ [])
put-one before written old at x same is l =
    let here : length written < length before = omega (arith, ap length is, length-filled before written) in
    rw (is, ← same) (one-more before written x here)

pub put-none : {A : Type 0} (before written old : List A) (at : ℕ) (x : A) → length written ≡ at
    → old ≡ filled before written → length old ≤ at
    → old ≡ filled before (written ++ x ∷ [])
put-none before written old at x same is l =
    is ∙ full before written x (omega (arith, ap length is, length-filled before written))
