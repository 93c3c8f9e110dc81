-- Numbers in decimal digits.
use Rattle.std.proofs.Common.{◌≡◌, ℕ, zero, suc, Result, ◌<◌, ◌≤◌, ◌^◌, true, false, Option, Some, None, Ok, Err, List}
use Rattle.std.proofs.Common.{[], ◌∷◌, length, refl, sym, ap, ◌∙◌, subst, inl, inr, arith, eqb, ltb}
use Rattle.std.proofs.lemmas.Bool.{cases_Bool, cases_lt, and_parts}
use Rattle.std.proofs.lemmas.Bool.Decides.{nat_tests}
use Rattle.std.proofs.lemmas.Str.{IsUtf8-from_ascii}
use Rattle.std.specs.Char.{is_ascii_digit, digit_value}
use Rattle.std.specs.List.{list_all}
use Rattle.std.specs.Prelude.{IfSome}
use Rattle.std.specs.Result.{result_ok}
use Rattle.std.specs.Str.{IsAscii, IsUtf8}
use Rattle.std.specs.Str.Parse.{AllDigits, digits_value, without_leading_plus, ParsesUnsigned}
use Rattle.rpc_serving.specs.Frames.{numeral, Agrees}

digit-byte : (c : ℕ) → digit_value c < 10 → is_ascii_digit c ≡ true
digit-byte c h = grind (arith, nat_tests)

byte-digit : (c : ℕ) → is_ascii_digit c ≡ true → digit_value c < 10
byte-digit c h = grind (arith, nat_tests)

pub digits-listed : (ds : List ℕ) → AllDigits 10 ds → list_all is_ascii_digit ds ≡ true
digits-listed [] h = refl
digits-listed (c ∷ ds) h = (let one : is_ascii_digit c ≡ true = digit-byte c h.0 in rw (one, digits-listed ds h.1) refl)

listed-digits : (ds : List ℕ) → list_all is_ascii_digit ds ≡ true → AllDigits 10 ds
listed-digits [] h = tt
listed-digits (c ∷ ds) h =
    (let p = and_parts (is_ascii_digit c) (list_all is_ascii_digit ds) h in (byte-digit c p.0, listed-digits ds p.1))

not-plus : (c : ℕ) → is_ascii_digit c ≡ true → eqb c 43 ≡ false
not-plus c h = grind (arith, nat_tests)

no-plus : (ds : List ℕ) → list_all is_ascii_digit ds ≡ true → without_leading_plus ds ≡ ds
no-plus [] h = refl
no-plus (c ∷ ds) h = (let plain : eqb c 43
    ≡ false = not-plus c (and_parts (is_ascii_digit c) (list_all is_ascii_digit ds) h).0 in rw plain refl)

some-test : (n : ℕ) → 0 < n → ltb 0 n ≡ true
some-test n h = grind (arith, nat_tests)

test-some : (n : ℕ) → ltb 0 n ≡ true → 0 < n
test-some n h = grind (arith, nat_tests)

pub numeral-digits : (ds : List ℕ) → 0 < length ds → list_all is_ascii_digit ds ≡ true
    → numeral ds ≡ Some (digits_value 10 ds)
numeral-digits ds some all = (let t : ltb 0 (length ds) ≡ true = some-test (length ds) some in rw (t, all) refl)

pub parsed : (E : Type 0) (ds : List ℕ) (n : ℕ) → list_all is_ascii_digit ds ≡ true
    → ParsesUnsigned {E = E} 64 10 ds (Ok n) → numeral ds ≡ Some n
parsed E ds n all h =
    let plain = no-plus ds all in
    numeral-digits ds (subst (λ (t : List ℕ). 0 < length t) plain h.0.0.0) all
    ∙ ap (λ (t : List ℕ). Some (digits_value 10 t)) (sym plain) ∙ ap Some (sym h.1)

pub not-parsed : (E : Type 0) (ds : List ℕ) (e : E) → list_all is_ascii_digit ds ≡ true
    → ParsesUnsigned {E = E} 64 10 ds (Err e) → Agrees (numeral ds) None
not-parsed E ds e all h = elim (cases_Bool (ltb 0 (length ds))) [
  | inl t ↦
      let plain = no-plus ds all in
      let some : 0 < length ds = test-some (length ds) t in
      subst (λ (o : Option ℕ). IfSome o (λ n. 2 ^ 64 ≤ n)) (sym (numeral-digits ds some all))
      (elim (cases_lt (digits_value 10 ds) (2 ^ 64)) [
        | inl lt ↦ absurd (h (subst (λ (t : List ℕ). ((0 < length t) × AllDigits 10 t) × (digits_value 10 t < 2 ^ 64))
            (sym plain)
            ((some, listed-digits ds all), lt)))
        | inr ge ↦ ge
      ])
  | inr t ↦ (let none : numeral ds ≡ None = rw t refl in
      subst (λ (o : Option ℕ). IfSome o (λ n. 2 ^ 64 ≤ n)) (sym none) tt)
]

pub agrees-parsed : (E : Type 0) (ds : List ℕ) (r : Result ℕ E) → list_all is_ascii_digit ds ≡ true
    → ParsesUnsigned {E = E} 64 10 ds r
    → Agrees (numeral ds) (result_ok r)
agrees-parsed E ds (Ok n) all h = parsed E ds n all h
agrees-parsed E ds (Err e) all h = not-parsed E ds e all h

digit-small : (c : ℕ) → is_ascii_digit c ≡ true → c < 128
digit-small c h = grind (arith, nat_tests)

digits-ascii : (ds : List ℕ) → list_all is_ascii_digit ds ≡ true → IsAscii ds
digits-ascii [] h i = omega arith
digits-ascii (c ∷ ds) h zero = digit-small c (and_parts (is_ascii_digit c) (list_all is_ascii_digit ds) h).0
digits-ascii (c ∷ ds) h (suc i) = digits-ascii ds (and_parts (is_ascii_digit c) (list_all is_ascii_digit ds) h).1 i

pub digits-utf8 : (ds : List ℕ) → list_all is_ascii_digit ds ≡ true → IsUtf8 ds
digits-utf8 ds all = IsUtf8-from_ascii ds (digits-ascii ds all)
