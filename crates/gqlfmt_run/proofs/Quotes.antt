-- Going over the characters of a name, and over the bytes of a character.
use Rattle.std.proofs.Common.{◌≡◌, ◌∙◌, ℕ, Bool, true, false, ◌||◌, List, [], ◌∷◌, ◌++◌, length, refl, sym, ap}
use Rattle.std.proofs.Common.{append_assoc, append-nil, arith}
use Rattle.std.proofs.lemmas.Str.{chars-nil, chars_past_char}
use Rattle.std.specs.List.{flat_map, list_any}
use Rattle.std.specs.Prelude.{encode_utf8}
use Rattle.std.specs.Str.{IsUtf8, chars}
use Rattle.gqlfmt_run.specs.Quoting.{is_escaped, quoted_char}

nothing : (rest : List ℕ) → length rest ≡ 0 → rest ≡ []
nothing [] e = refl
nothing (b ∷ bs) e = absurd (omega (arith, e))

pub ended : (text rest all : List ℕ) → length rest ≡ 0 → text ++ flat_map quoted_char (chars rest) ≡ all → text ≡ all
ended text rest all none h =
    let empty : flat_map quoted_char (chars rest) ≡ [] =
    ap (λ r. flat_map quoted_char (chars r)) (nothing rest none) ∙ ap (flat_map quoted_char) chars-nil in
    sym (append-nil text) ∙ ap (λ s. text ++ s) (sym empty) ∙ h

-- the name that is left begins with a character
pub one-more : (text text' rest rest' all : List ℕ) (c : ℕ) → IsUtf8 rest → rest ≡ encode_utf8 c ++ rest'
    → text' ≡ text ++ quoted_char c
    → text ++ flat_map quoted_char (chars rest) ≡ all → text' ++ flat_map quoted_char (chars rest') ≡ all
one-more text text' rest rest' all c utf8 begins put h =
    let first : flat_map quoted_char (chars rest) ≡ quoted_char c ++ flat_map quoted_char (chars rest') =
    ap (flat_map quoted_char) (chars_past_char rest rest' c utf8 begins) in
    ap (λ s. s ++ flat_map quoted_char (chars rest')) put
    ∙ append_assoc text (quoted_char c) (flat_map quoted_char (chars rest'))
    ∙ ap (λ s. text ++ s) (sym first) ∙ h

-- whether a character is escaped: none is at the end
pub any-ended : (rest : List ℕ) (all : Bool) → length rest ≡ 0 → list_any is_escaped (chars rest) ≡ all → false ≡ all
any-ended rest all none h =
    sym (ap (λ r. list_any is_escaped (chars r)) (nothing rest none) ∙ ap (list_any is_escaped) chars-nil) ∙ h

first-of : (rest rest' : List ℕ) (c : ℕ) (escaped : Bool) → IsUtf8 rest → rest ≡ encode_utf8 c ++ rest'
    → is_escaped c ≡ escaped
    → list_any is_escaped (chars rest) ≡ (escaped || list_any is_escaped (chars rest'))
first-of rest rest' c escaped utf8 begins is =
    ap (list_any is_escaped) (chars_past_char rest rest' c utf8 begins)
    ∙ ap (λ b. b || list_any is_escaped (chars rest')) is

-- the first is
pub any-found : (rest rest' : List ℕ) (all : Bool) (c : ℕ) {b : Bool} → IsUtf8 rest → rest ≡ encode_utf8 c ++ rest'
    → is_escaped c ≡ b → b ≡ true
    → list_any is_escaped (chars rest) ≡ all → true ≡ all
any-found rest rest' all c utf8 begins is found h = sym (first-of rest rest' c true utf8 begins (is ∙ found)) ∙ h

-- or it is not
pub any-later : (rest rest' : List ℕ) (all : Bool) (c : ℕ) {b : Bool} → IsUtf8 rest → rest ≡ encode_utf8 c ++ rest'
    → is_escaped c ≡ b → b ≡ false
    → list_any is_escaped (chars rest) ≡ all → list_any is_escaped (chars rest') ≡ all
any-later rest rest' all c utf8 begins is not h = sym (first-of rest rest' c false utf8 begins (is ∙ not)) ∙ h
