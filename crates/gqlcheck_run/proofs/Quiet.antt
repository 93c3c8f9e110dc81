-- What a text that passes adds to a tally.
use Rattle.std.proofs.Common.{◌≡◌, ℕ, max, arith}
use Rattle.std.proofs.lemmas.Bool.Decides.{nat_tests}
use Rattle.std.specs.Ordering.{ord_max, nat_cmp}

-- the greater of two statuses
pub greater : (a b : ℕ) → ord_max nat_cmp a b ≡ max a b
greater a b = grind (arith, nat_tests)

least : (a b : ℕ) → ord_max nat_cmp a b ≡ 0 → (a ≡ 0) × (b ≡ 0)
least a b e = (grind (arith, nat_tests), grind (arith, nat_tests))

-- one status more
pub quiet_more : (status one worst first middle last : ℕ) → worst ≡ ord_max nat_cmp status one
    → (status ≡ 0 → middle ≡ first)
    → (one ≡ 0 → last ≡ middle) → worst ≡ 0 → last ≡ first
quiet_more status one worst first middle last most so_far next none =
    let both : (status ≡ 0) × (one ≡ 0) = least status one (cc) in
    let before : middle ≡ first = so_far both.0 in
    let after : last ≡ middle = next both.1 in
    cc
