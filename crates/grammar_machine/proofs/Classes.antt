-- Sets of classes, and which sets hold a class.
use Rattle.std.proofs.Common.{◌≡◌, ◌≢◌, ℕ, ◌+◌, ◌-◌, ◌^◌, true, List, [], ◌∷◌, bit_and, bit_or, refl, arith, eqb-true}
use Rattle.std.proofs.lemmas.Nat.Bits.{bit_at_and, bit_at_or, bit_at-lt, bit_at-pow_other}
use Rattle.std.specs.Int.{bit_at}
use Rattle.grammar_machine.proofs.Checks.{subset}
use Rattle.grammar_machine.proofs.Sound.{any}
use Rattle.grammar_machine.proofs.TableLemmas.{holds-subset}
use Rattle.grammar_machine.specs.Machine.{holds}

-- Sets: of the listed classes, each once; of all others.
abbrev pub only : List ℕ → ℕ
only [] = 0
only (k ∷ ks) = 2 ^ k + only ks

abbrev pub but : List ℕ → ℕ
but ks = any - only ks

-- A class that is in two sets is in their intersection.
pub holds-and : (a x y : ℕ) → holds a x ≡ true → holds a y ≡ true → holds a (bit_and x y) ≡ true
unfolding holds
holds-and a x y h k =
    let e : bit_at (bit_and x y) a ≡ 1 = omega (arith, bit_at_and x y a, eqb-true _ _ h, eqb-true _ _ k) in rw e refl

-- Without the class `c`, the set `set` is in `y`.
pub holds-but : (a c set y : ℕ) → holds a set ≡ true → a ≢ c → subset set (bit_or (2 ^ c) y) ≡ true → holds a y ≡ true
unfolding holds
holds-but a c set y h n t =
    let k = eqb-true _ _ (holds-subset a set (bit_or (2 ^ c) y) t h) in
    let e : bit_at y a ≡ 1 = omega (arith, k, bit_at_or (2 ^ c) y a, bit_at-lt y a, bit_at-pow_other c a n) in
    rw e refl
