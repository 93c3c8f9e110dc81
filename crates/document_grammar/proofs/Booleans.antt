-- Lemmas on Booleans, and std's lemmas on `&&` and `||` for the `and` and `or` that proofs unfold.
use Rattle.std.proofs.Common.{◌≡◌, ℕ, Bool, true, false, cond, not, eqb, Option, Some, None, is_some, refl, sym, ◌⊎◌}
use Rattle.std.proofs.lemmas.Bool.{both_ways, and_parts, and_from, and_left, and_right, or_cases, or_left, or_right}
use Rattle.std.proofs.lemmas.Bool.{or_from, or_parts, eq-eqb}
pub use Rattle.std.proofs.lemmas.Bool.{cases_Bool as either, not-true as not-c}
use Rattle.document_grammar.specs.Booleans.{◌and◌, ◌or◌}

pub false-true : {A : Type 0} {b : Bool} → b ≡ false → b ≡ true → A
false-true {b = b} e f = absurd (both_ways b e f)

pub not-some : {A : Type 0} (o : Option A) → is_some o ≡ false → o ≡ None
not-some None e = refl
not-some (Some x) e = false-true e refl

pub and-l : (a b : Bool) → a and b ≡ true → a ≡ true
unfolding ◌and◌
and-l a b h = (and_parts a b h).0

pub and-r : (a b : Bool) → a and b ≡ true → b ≡ true
unfolding ◌and◌
and-r a b h = (and_parts a b h).1

pub and-i : {a b : Bool} → a ≡ true → b ≡ true → a and b ≡ true
unfolding ◌and◌
and-i {a} {b} = and_from a b

pub or-c : (a b : Bool) → a or b ≡ true → (a ≡ true) ⊎ (b ≡ true)
unfolding ◌or◌
or-c = or_cases

pub or-l : (a b : Bool) → a ≡ true → a or b ≡ true
unfolding ◌or◌
or-l = or_left

pub or-r : (a b : Bool) → b ≡ true → a or b ≡ true
unfolding ◌or◌
or-r = or_right

pub implies : (a b : Bool) → not a or b ≡ true → a ≡ true → b ≡ true
unfolding ◌or◌
implies true b h e = h
implies false b h e = false-true refl e

pub eqb-refl : (k : ℕ) → eqb k k ≡ true
eqb-refl k = eq-eqb k k refl

pub cond-zero : (b : Bool) → ◌≡◌ {A = ℕ} (cond b 0 0) 0
cond-zero true = refl
cond-zero false = refl

pub or-false : {a b : Bool} → a ≡ false → b ≡ false → a or b ≡ false
unfolding ◌or◌
or-false {a} {b} = or_from a b

pub or-false-l : (a b : Bool) → a or b ≡ false → a ≡ false
unfolding ◌or◌
or-false-l a b h = (or_parts a b h).0

pub or-false-r : (a b : Bool) → a or b ≡ false → b ≡ false
unfolding ◌or◌
or-false-r a b h = (or_parts a b h).1

pub or-assoc : (a b c : Bool) → (a or b) or c ≡ a or (b or c)
unfolding ◌or◌
or-assoc true b c = refl
or-assoc false b c = refl

pub or-none : (a : Bool) → a or false ≡ a
unfolding ◌or◌
or-none true = refl
or-none false = refl

pub and-false-r : (a : Bool) {b : Bool} → b ≡ false → a and b ≡ false
unfolding ◌and◌
and-false-r a {b} = and_right a b

pub and-false-l : (a b : Bool) → a ≡ false → a and b ≡ false
unfolding ◌and◌
and-false-l = and_left

-- Two tests that agree.
abbrev pub same : Bool → Bool → Bool
same a b = cond a b (not b)

pub same-bool : (a b : Bool) → same a b ≡ true → a ≡ b
same-bool true b h = sym h
same-bool false b h = sym (not-c b h)
