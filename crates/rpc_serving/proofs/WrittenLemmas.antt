-- The frame that is written, as the grammar reads it.
use Rattle.std.proofs.Common.{◌≡◌, ℕ, ◌+◌, ◌≤◌, ◌^◌, true, false, Some, List, [], ◌∷◌, ◌++◌, length, reverse, refl, ap}
use Rattle.std.proofs.Common.{◌∙◌, arith, get_or, append_assoc, length-append}
use Rattle.std.proofs.lemmas.Bool.Decides.{nat_tests}
use Rattle.std.proofs.lemmas.Fmt.{decimal_is_IsNumeral, length-decimal-le}
use Rattle.std.proofs.lemmas.List.Elements.{All-cons, All-nil}
use Rattle.std.proofs.lemmas.List.Sums.{AllPass-from_list_all}
use Rattle.std.specs.Char.{is_ascii_digit}
use Rattle.std.specs.List.{AllPass, list_all}
use Rattle.std.specs.Prelude.{codes, decimal}
use Rattle.httparse.proofs.TrimLemmas.{AllPass-reverse, trim_ows_space}
use Rattle.httparse.specs.Grammar.{Field, IsField, crlf, is_ows, is_token_byte, is_value_byte, skip_ows, trim_ows}
use Rattle.rpc_serving.proofs.NumeralLemmas.{digits-listed, numeral-digits}
use Rattle.rpc_serving.specs.Frames.{IsFrame, frame_of, numeral}

digit-ows : (c : ℕ) → is_ascii_digit c ≡ true → is_ows c ≡ false
digit-ows c h = grind (arith, nat_tests)

digit-value : (c : ℕ) → is_ascii_digit c ≡ true → is_value_byte c ≡ true
digit-value c h = grind (arith, nat_tests)

skip-digits : (ds : List ℕ) → AllPass is_ascii_digit ds → skip_ows ds ≡ ds
skip-digits [] h = refl
skip-digits (c ∷ ds) h = (let plain : is_ows c ≡ false = digit-ows c (h 0 0 (omega arith)) in rw plain refl)

name-token : list_all is_token_byte (codes "Content-Length") ≡ true
unfolding is_token_byte
name-token = refl

abbrev line : ℕ → Field
line n = record { name = codes "Content-Length"; raw = 32 ∷ decimal n; end = crlf }

tail : (ds body : List ℕ)
    → (ds ++ 13 ∷ 10 ∷ 13 ∷ 10 ∷ []) ++ body ≡ (((ds ++ 13 ∷ 10 ∷ []) ++ []) ++ 13 ∷ 10 ∷ []) ++ body
tail ds body = simp append_assoc

tail-length : (ds : List ℕ) → length (((ds ++ 13 ∷ 10 ∷ []) ++ []) ++ 13 ∷ 10 ∷ []) ≡ length ds + 4
tail-length ds = simp length-append (omega arith)

pub written : (frame body : List ℕ) → length body ≤ 2 ^ 30 → frame ≡ frame_of body → IsFrame frame body
written frame body small is =
    let n : ℕ = length body in
    let numeral-n = decimal_is_IsNumeral n (omega arith) in
    let listed : list_all is_ascii_digit (decimal n) ≡ true = digits-listed (decimal n) numeral-n.0.1 in
    let pass : AllPass is_ascii_digit (decimal n) = AllPass-from_list_all is_ascii_digit (decimal n) listed in
    let trimmed : trim_ows (32 ∷ decimal n) ≡ decimal n = trim_ows_space (decimal n) (skip-digits (decimal n) pass)
    (skip-digits (reverse (decimal n)) (AllPass-reverse is_ascii_digit (decimal n) pass)) in
    let stated : numeral (trim_ows (32 ∷ decimal n)) ≡ Some n =
    ap numeral trimmed ∙ numeral-digits (decimal n) numeral-n.0.0 listed ∙ ap Some numeral-n.1 in
    let short : length (decimal n) ≤ 10 = length-decimal-le 10 n (omega arith) (omega arith) (omega arith) in
    let value : AllPass is_value_byte (decimal n) = λ k d lt. digit-value (get_or (decimal n) k d) (pass k d lt) in
    record {
      fields = line n ∷ [];
      last = crlf;
      head = (
        All-cons IsField (line n) [] (record {
          name = (omega arith, AllPass-from_list_all is_token_byte (codes "Content-Length") name-token);
          raw = All-cons (λ b. is_value_byte b ≡ true) 32 (decimal n) refl value;
        }) (All-nil IsField),
        is ∙ ap (λ (v : List ℕ). codes "Content-Length: " ++ v) (tail (decimal n) body),
      );
      says = stated;
      few = omega arith;
      short = omega (arith, tail-length (decimal n));
      small = small;
    }
