-- The value of a string has no more bytes than the string.
use Rattle.std.proofs.Common.{◌≡◌, ◌+◌, ◌-◌, ◌≤◌, ◌⊎◌, ℕ, zero, suc, List, [], ◌∷◌, length, take, drop, ap, ⊎_elim, inl}
use Rattle.std.proofs.Common.{inr, arith, length-append, length-drop}
use Rattle.std.proofs.Math.Logic.{∥∥₁_elim}
use Rattle.std.proofs.Props.{props}
use Rattle.std.proofs.lemmas.Bool.{cases_Bool}
use Rattle.std.proofs.lemmas.Str.{length-encode, len_utf8_bounds}
use Rattle.std.specs.Char.Utf16.{surrogate_pair_char}
use Rattle.std.specs.List.{prefix_len, suffix_len}
use Rattle.std.specs.Prelude.{◌&&◌, ◌==◌, map}
use Rattle.lexical_grammar.specs.Characters.{is_line_terminator}
use Rattle.lexical_grammar.specs.Strings.{StringCharacter, StringCharacters, BlockCharacters, Quoted, hex_value, plain}
use Rattle.lexical_grammar.specs.Strings.{escaped, fixed, braced, pair, none, one_more, closing}
use Rattle.lexical_grammar.specs.Values.{Block, Lines, onto_first, common_indent, dedented, without_blank_ends}
use Rattle.lexical_grammar.specs.Values.{is_blank_line, joined_by_lf, block_string_value}
use Rattle.apollo_parser.specs.StringValues.{IsStringValue}

-- ---- quoted strings

one-character : (text value : List ℕ) → StringCharacter text value → length value ≤ length text
one-character _ _ (plain {c} p) = omega arith
one-character _ _ (escaped {e} {c} p) = omega arith
one-character _ _ (fixed {text} {digits} f s) =
    omega (arith, ap length f.spelled, f.four, length-encode (hex_value digits), (len_utf8_bounds (hex_value digits)).1)
one-character _ _ (braced {text} {digits} b s) =
    omega (
      arith,
      ap length b.spelled,
      b.some,
      length-append digits (125 ∷ []),
      length-encode (hex_value digits),
      (len_utf8_bounds (hex_value digits)).1,
    )
one-character _ _ (pair {high} {high_digits} {low} {low_digits} h s l t) =
    let c : ℕ = surrogate_pair_char (hex_value high_digits) (hex_value low_digits) in
    omega (
      arith,
      length-append high low,
      ap length h.spelled,
      h.four,
      ap length l.spelled,
      l.four,
      length-encode c,
      (len_utf8_bounds c).1,
    )

characters : (text value : List ℕ) → StringCharacters text value → length value ≤ length text
characters _ _ none = omega arith
characters _ _ (one_more {text} {value} {texts} {values} one more) =
    omega (
      arith,
      length-append text texts,
      length-append value values,
      one-character text value one,
      characters texts values more,
    )

-- ---- block strings

raw-within : (text raw : List ℕ) → BlockCharacters text raw → length raw ≤ length text
raw-within _ _ closing = omega arith
raw-within _ _ (escaped {text} {raw} more) = omega (arith, raw-within text raw more)
raw-within _ _ (plain {c} {text} {raw} a b more) = omega (arith, raw-within text raw more)

-- how many bytes the lines have, with an LF between each two
abbrev width : List (List ℕ) → ℕ
width lines = length (joined_by_lf lines)

head-shorter : (a b : List ℕ) (lines : List (List ℕ)) → length a ≤ length b → width (a ∷ lines) ≤ width (b ∷ lines)
head-shorter a b [] le = le
head-shorter a b (next ∷ lines) le =
    omega (
      arith,
      le,
      length-append a (10 ∷ joined_by_lf (next ∷ lines)),
      length-append b (10 ∷ joined_by_lf (next ∷ lines)),
    )

tail-shorter : (line : List ℕ) (lines : List (List ℕ)) → width lines ≤ width (line ∷ lines)
tail-shorter line [] = omega arith
tail-shorter line (next ∷ lines) = omega (arith, length-append line (10 ∷ joined_by_lf (next ∷ lines)))

empty-line : (lines : List (List ℕ)) → width ([] ∷ lines) ≤ 1 + width lines
empty-line [] = omega arith
empty-line (next ∷ lines) = omega arith

one-byte-more : (c : ℕ) (lines : List (List ℕ)) → width (onto_first c lines) ≡ 1 + width lines
one-byte-more c [] = omega arith
one-byte-more c (line ∷ []) = omega arith
one-byte-more c (line ∷ next ∷ lines) = omega arith

lines-within : (text : List ℕ) → width (Lines text) ≤ length text
lines-within [] = omega arith
lines-within (c ∷ []) =
    elim (cases_Bool (is_line_terminator c)) [ inl e ↦ rw e (omega arith) | inr e ↦ rw e (omega arith) ]
lines-within (c ∷ d ∷ text) = elim (cases_Bool (c == 13 && d == 10)) [
  | inl e ↦ rw e (omega (arith, empty-line (Lines text), lines-within text))
  | inr e ↦ elim (cases_Bool (is_line_terminator c)) [
    | inl f ↦ rw (e, f) (omega (arith, empty-line (Lines (d ∷ text)), lines-within (d ∷ text)))
    | inr f ↦ rw (e, f) (omega (arith, one-byte-more c (Lines (d ∷ text)), lines-within (d ∷ text)))
  ]
]

others-dedented : (n : ℕ) (first : List ℕ) (lines : List (List ℕ))
    → width (first ∷ map (drop n) lines) ≤ width (first ∷ lines)
others-dedented n first [] = omega arith
others-dedented n first (line ∷ lines) =
    omega (
      arith,
      length-append first (10 ∷ joined_by_lf (drop n line ∷ map (drop n) lines)),
      length-append first (10 ∷ joined_by_lf (line ∷ lines)),
      others-dedented n (drop n line) lines,
      head-shorter (drop n line) line lines (omega (arith, length-drop n line)),
    )

dedented-within : (lines : List (List ℕ)) → width (dedented lines) ≤ width lines
dedented-within [] = omega arith
dedented-within (first ∷ lines) = others-dedented (common_indent lines) first lines

drop-within : (n : ℕ) (lines : List (List ℕ)) → width (drop n lines) ≤ width lines
drop-within zero lines = omega arith
drop-within (suc n) [] = omega arith
drop-within (suc n) (line ∷ lines) = omega (arith, drop-within n lines, tail-shorter line lines)

take-within : (n : ℕ) (lines : List (List ℕ)) → width (take n lines) ≤ width lines
take-within zero lines = omega arith
take-within (suc n) [] = omega arith
take-within (suc zero) (line ∷ []) = omega arith
take-within (suc (suc n)) (line ∷ []) = omega arith
take-within (suc zero) (line ∷ next ∷ lines) = omega (arith, length-append line (10 ∷ joined_by_lf (next ∷ lines)))
take-within (suc (suc n)) (line ∷ next ∷ lines) =
    omega (
      arith,
      take-within (suc n) (next ∷ lines),
      length-append line (10 ∷ joined_by_lf (next ∷ lines)),
      length-append line (10 ∷ joined_by_lf (next ∷ take n lines)),
    )

without-blanks : (lines : List (List ℕ)) → width (without_blank_ends lines) ≤ width lines
without-blanks lines =
    let rest : List (List ℕ) = drop (prefix_len is_blank_line lines) lines in
    omega (
      arith,
      take-within (length rest - suffix_len is_blank_line rest) rest,
      drop-within (prefix_len is_blank_line lines) lines,
    )

block-within : (raw : List ℕ) → length (block_string_value raw) ≤ length raw
block-within raw = omega (arith, without-blanks (dedented (Lines raw)), dedented-within (Lines raw), lines-within raw)

-- ---- both

quoted-value : (text value : List ℕ) → Quoted text value → length value ≤ length text
quoted-value text value q =
    omega (arith, ap length q.spelled, length-append q.inside (34 ∷ []), characters q.inside value q.characters)

block-value : (text value : List ℕ) → Block text value → length value ≤ length text
block-value text value b =
    omega (
      arith,
      ap length b.string.spelled,
      raw-within b.string.inside b.raw b.string.characters,
      block-within b.raw,
      ap length b.value_is,
    )

value-within : (text value : List ℕ) → (Quoted text value ⊎ Block text value) → length value ≤ length text
value-within text value some = ⊎_elim (quoted-value text value) (block-value text value) some

≤-prop : (n m : ℕ) → IsProp (n ≤ m)
≤-prop n m = hlevel props

-- a string's value has no more bytes than the string
pub no_longer : (text value : List ℕ) → IsStringValue text value → length value ≤ length text
no_longer text value is = ∥∥₁_elim is (≤-prop (length value) (length text)) (value-within text value)
