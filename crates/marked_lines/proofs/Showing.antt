-- Going over the characters of a text.
use Rattle.std.proofs.Common.{◌≡◌, ◌∙◌, ℕ, List, [], ◌∷◌, ◌++◌, length, refl, sym, ap, append_assoc, append-nil, arith}
use Rattle.std.proofs.lemmas.Str.{chars-nil, chars_past_char, encodes-append}
use Rattle.std.specs.List.{flat_map}
use Rattle.std.specs.Prelude.{encode_utf8, encode_utf8_all}
use Rattle.std.specs.Str.{IsUtf8, chars}
use Rattle.marked_lines.specs.Escaping.{shown, shown_char}

nothing : (rest : List ℕ) → length rest ≡ 0 → rest ≡ []
nothing [] e = refl
nothing (b ∷ bs) e = absurd (omega (arith, e))

pub ended : (report rest all : List ℕ) → length rest ≡ 0 → report ++ shown rest ≡ all → report ≡ all
ended report rest all none h =
    let empty : shown rest ≡ [] =
    ap shown (nothing rest none) ∙ ap (λ cs. encode_utf8_all (flat_map shown_char cs)) chars-nil in
    sym (append-nil report) ∙ ap (λ s. report ++ s) (sym empty) ∙ h

-- the text that is left begins with a character
pub one-more : (report report' rest rest' all : List ℕ) (c : ℕ) → IsUtf8 rest → rest ≡ encode_utf8 c ++ rest'
    → report' ≡ report ++ encode_utf8_all (shown_char c) → report ++ shown rest ≡ all → report' ++ shown rest' ≡ all
one-more report report' rest rest' all c utf8 begins put h =
    let first : shown rest ≡ encode_utf8_all (shown_char c) ++ shown rest' =
    ap (λ cs. encode_utf8_all (flat_map shown_char cs)) (chars_past_char rest rest' c utf8 begins)
    ∙ encodes-append (shown_char c) (flat_map shown_char (chars rest')) in
    ap (λ s. s ++ shown rest') put ∙ append_assoc report (encode_utf8_all (shown_char c)) (shown rest')
    ∙ ap (λ s. report ++ s) (sym first) ∙ h
