-- Numbers of JSON that count lines and units.
use Rattle.std.proofs.Common.{◌≡◌, ◌<◌, ◌^◌, true, ℕ, List, [], ◌∷◌, Option, Some, None, ok_or, refl, ap, inl, inr}
use Rattle.std.proofs.Common.{arith, ◌∙◌}
use Rattle.std.proofs.lemmas.Bool.{cases_Bool, and_parts}
use Rattle.std.proofs.lemmas.Bool.Decides.{nat_tests}
use Rattle.std.specs.Char.{digit_value, is_digit}
use Rattle.std.specs.List.{list_all}
use Rattle.std.specs.Prelude.{◌&&◌, MatchOption, nat_lt, option_and_then}
use Rattle.std.specs.Str.Parse.{AllDigits, IsNumeral, ParsesUnsigned, digits_value, without_leading_plus}
use Rattle.gqlls_server.specs.Parameters.{numeral}

below : (n most : ℕ) → n < most → nat_lt n most ≡ true
below n most h = grind (arith, nat_tests)

is-below : (n most : ℕ) → nat_lt n most ≡ true → n < most
is-below n most h = grind (arith, nat_tests)

listed : (digits : List ℕ) → AllDigits 10 digits → list_all (λ c. is_digit c 10) digits ≡ true
listed [] h = refl
listed (c ∷ digits) h =
    (let one : is_digit c 10 ≡ true = below (digit_value c) 10 h.0 in rw (one, listed digits h.1) refl)

are-digits : (digits : List ℕ) → list_all (λ c. is_digit c 10) digits ≡ true → AllDigits 10 digits
are-digits [] h = tt
are-digits (c ∷ digits) h =
    let parts = and_parts (is_digit c 10) (list_all (λ c. is_digit c 10) digits) h in
    (is-below (digit_value c) 10 parts.0, are-digits digits parts.1)

fits : (digits : List ℕ) → IsNumeral 10 digits → digits_value 10 digits < 2 ^ 64
    → Some (digits_value 10 digits) ≡ numeral digits
fits [] is small = absurd (let no : 0 < 0 = is.0 in omega arith)
fits (c ∷ digits) is small =
    let all : list_all (λ c. is_digit c 10) (c ∷ digits) ≡ true = listed (c ∷ digits) is.1 in
    let less : nat_lt (digits_value 10 (c ∷ digits)) (2 ^ 64) ≡ true = below _ _ small in
    rw (all, less) refl

no-number : (digits : List ℕ) → (IsNumeral 10 digits × (digits_value 10 digits < 2 ^ 64) → ⊥) → None ≡ numeral digits
no-number [] none = refl
no-number (c ∷ digits) none =
    elim (cases_Bool (list_all (λ c. is_digit c 10) (c ∷ digits) && nat_lt (digits_value 10 (c ∷ digits)) (2 ^ 64))) [
      | inl t ↦
          let parts = and_parts (list_all (λ c. is_digit c 10) (c ∷ digits))
          (nat_lt (digits_value 10 (c ∷ digits)) (2 ^ 64)) t in
          absurd (none ((omega arith, are-digits (c ∷ digits) parts.0), is-below _ _ parts.1))
      | inr f ↦ rw f refl
    ]

parsed : {E : Type 0} (text : List ℕ) (found : Option ℕ) (e : E) → ParsesUnsigned 64 10 text (ok_or found e)
    → found ≡ numeral (without_leading_plus text)
parsed text (Some n) e h = ap (λ (m : ℕ). Some m) h.1 ∙ fits (without_leading_plus text) h.0.0 h.0.1
parsed text None e h = no-number (without_leading_plus text) h

pub number_of_text : (text : Option (List ℕ)) (found : Option ℕ)
    → MatchOption text (found ≡ None) (λ digits. ParsesUnsigned 64 10 digits (ok_or found digits))
    → found ≡ option_and_then (λ digits. numeral (without_leading_plus digits)) text
number_of_text None found h = h
number_of_text (Some text) found h = parsed text found text h
