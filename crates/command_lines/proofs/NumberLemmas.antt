-- The number that a word spells, as `parse` reads it.
use Rattle.std.proofs.Common.{◌≡◌, ℕ, ◌<◌, ◌^◌, Bool, true, false, ◌&&◌, nat_lt, List, [], ◌∷◌, ◌++◌, length, refl, sym}
use Rattle.std.proofs.Common.{ap, ◌∙◌, arith, get_or, cond}
use Rattle.std.proofs.lemmas.Bool.{and_parts}
use Rattle.std.proofs.lemmas.Bool.Decides.{nat_tests}
use Rattle.std.proofs.lemmas.Str.Parse.{numerals_by_value, tells_all_ascii_digits, parse_plain}
use Rattle.std.specs.Prelude.{◌≢◌, Result, Some, None, Ok, Err, encode_utf8}
use Rattle.std.specs.Result.{result_ok}
use Rattle.std.specs.Str.{all_ascii_digits}
use Rattle.std.specs.Str.Parse.{digits_value, ParsesUnsigned}
use borrow.Author.Tests.{ltb-true}
use lib.Utf8.{encode}
use Rattle.command_lines.specs.Numbers.{is_number, number_of}

-- a numeral passes the test
number-some : (word : List ℕ) → all_ascii_digits word ≡ true → 0 < length word → digits_value 10 word < 2 ^ 64
    → number_of word ≡ Some (digits_value 10 word)
number-some word digits some fits = grind (arith, nat_tests)

-- what passes the test is a numeral
number-passed : (word : List ℕ) → is_number word ≡ true
    → (all_ascii_digits word ≡ true) × (0 < length word) × (digits_value 10 word < 2 ^ 64)
number-passed word passes =
    let outer = and_parts (nat_lt 0 (length word) && all_ascii_digits word)
    (nat_lt (digits_value 10 word) (2 ^ 64)) passes in
    let inner = and_parts (nat_lt 0 (length word)) (all_ascii_digits word) outer.0 in
    (inner.1, ltb-true 0 (length word) inner.0, ltb-true (digits_value 10 word) (2 ^ 64) outer.1)

none-unless : (b : Bool) (n : ℕ) → (b ≡ true → ⊥) → cond b (Some n) None ≡ None
none-unless true n fails = absurd (fails refl)
none-unless false n fails = refl

-- what is no numeral does not pass
number-none : (word : List ℕ)
    → ((all_ascii_digits word ≡ true) × (0 < length word) × (digits_value 10 word < 2 ^ 64) → ⊥) → number_of word ≡ None
number-none word fails =
    none-unless (is_number word) (digits_value 10 word) (λ passes. fails (number-passed word passes))

-- the test and `parse` agree when the word doesn't begin with a plus
pub number-parsed : {E : Type 0} (word : List ℕ) (r : Result ℕ E) → get_or word 0 0 ≢ 43 → ParsesUnsigned 64 10 word r
    → result_ok r ≡ number_of word
number-parsed {E} word (Ok n) plain h =
    let k = parse_plain (numerals_by_value _ tells_all_ascii_digits) {E = E} 64 word (Ok n) h plain in
    ap Some k.1 ∙ sym (number-some word k.0.0 k.0.1 k.0.2)
number-parsed {E} word (Err e) plain h =
    let k = parse_plain (numerals_by_value _ tells_all_ascii_digits) {E = E} 64 word (Err e) h plain in
    sym (number-none word k)

-- a text with no plus at its front
pub no-plus : (word : List ℕ) → ((rest : List ℕ) → word ≡ encode_utf8 43 ++ rest → ⊥) → get_or word 0 0 ≢ 43
unfolding encode
no-plus [] none e = omega arith
no-plus (c ∷ cs) none e = none cs (ap (λ (b : ℕ). b ∷ cs) e)
