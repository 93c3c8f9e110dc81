-- What a position of the Language Server Protocol means to a client, which has its text as a list of lines, and each
-- line as a list of units: bytes of UTF-8 or units of UTF-16. A position is the number of a line, and a column that
-- counts units.
use Rattle.std.specs.Char.Escape.{encode_utf16}
use Rattle.std.specs.Int.{is_in_range}
use Rattle.std.specs.List.{flat_map, position_or_len}
use Rattle.std.specs.Prelude.{ℕ, zero, suc, ◌+◌, Bool, true, ◌||◌, ◌&&◌, ◌==◌, not, if◌then◌else◌, List, [], ◌∷◌}
use Rattle.std.specs.Prelude.{length, min, slice_index, encode_utf8, ◌≡◌}
use Rattle.std.specs.Str.{chars, IsCharBoundary}
use Rattle.lexical_grammar.specs.Characters.{is_line_terminator}
use Rattle.line_index.specs.Columns.{utf16_len}
use Rattle.line_index.specs.declared.Position.{Position}
use Rattle.line_index.specs.declared.PositionEncoding.{PositionEncoding}
use Rattle.line_index.specs.declared.PositionEncoding.TheVariants.{Utf8, Utf16}

-- the units of a character, and those of a text
abbrev pub units_of : PositionEncoding → ℕ → List ℕ
units_of Utf8 c = encode_utf8 c
units_of Utf16 c = encode_utf16 c

abbrev pub units : PositionEncoding → List ℕ → List ℕ
units encoding text = flat_map (units_of encoding) (chars text)

-- whether a unit is a further one of its character, and not the first
abbrev pub continues : PositionEncoding → ℕ → Bool
continues Utf8 x = is_in_range 0x80 0xBF x
continues Utf16 x = is_in_range 0xDC00 0xDFFF x

-- whether a line ends after x, which xs follows: LF, CR and CR LF end a line
abbrev pub ends_line : ℕ → List ℕ → Bool
ends_line x xs = x == 10 || (x == 13 && not (slice_index xs 0 == 10))

-- x in front of the first of some lines
abbrev pub in_front : ℕ → List (List ℕ) → List (List ℕ)
in_front x [] = (x ∷ []) ∷ []
in_front x (line ∷ lines) = (x ∷ line) ∷ lines

-- the lines of a text, each with its end. The text after the last end is a line too, even when it is empty.
abbrev pub lines_of : List ℕ → List (List ℕ)
lines_of [] = [] ∷ []
lines_of (x ∷ xs) = if ends_line x xs then (x ∷ []) ∷ lines_of xs else in_front x (lines_of xs)

-- How many units come before a column of a line: "If the character value is greater than the line length it defaults
-- back to the line length". What ends the line isn't counted. After the last line comes the end of the text.
abbrev pub units_before : List (List ℕ) → ℕ → ℕ → ℕ
units_before [] line column = 0
units_before (first ∷ lines) zero column = min column (position_or_len is_line_terminator first)
units_before (first ∷ lines) (suc line) column = length first + units_before lines line column

-- the last offset up to this one that is not inside a character
abbrev pub whole : PositionEncoding → List ℕ → ℕ → ℕ
whole encoding text zero = 0
whole encoding text (suc k) = if continues encoding (slice_index text (suc k)) then whole encoding text k else suc k

-- the offset of a position in a text of units, which is in front of that many units
abbrev pub offset_of : PositionEncoding → List ℕ → Position → ℕ
offset_of encoding text position = whole encoding text (units_before (lines_of text) position.line position.column)

-- what a part of a text adds to a column
abbrev pub width : PositionEncoding → List ℕ → ℕ
width Utf8 text = length text
width Utf16 text = utf16_len text

-- Where a cursor may be: beside a character, and not between the CR and the LF of a CR LF.
pub record IsCursor (text : List ℕ) (k : ℕ) : Type 0 where
  pub boundary : IsCharBoundary text k
  pub apart : (j : ℕ) → k ≡ suc j → (slice_index text j == 13 && slice_index text k == 10) ≡ true → ⊥
