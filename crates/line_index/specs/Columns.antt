-- How many characters a text in UTF-8 has, and how many units it takes in UTF-16.
use Rattle.std.specs.Prelude.{ℕ, Bool, nat_lt, ◌||◌, if◌then◌else◌, List, sum_by, count_by}
use Rattle.line_index.specs.declared.Counted.{Counted}
use Rattle.line_index.specs.declared.Counted.TheVariants.{Characters, Utf16Units}

-- each character has one such byte, its first: the others are from 128 to 191
abbrev pub begins_character : ℕ → Bool
begins_character b = nat_lt b 128 || nat_lt 191 b

abbrev pub char_count : List ℕ → ℕ
char_count text = count_by begins_character text

-- the units of the character that a byte begins: two where it takes four bytes, whose first is from 240 on
abbrev pub utf16_units : ℕ → ℕ
utf16_units b = if begins_character b then (if nat_lt b 240 then 1 else 2) else 0

abbrev pub utf16_len : List ℕ → ℕ
utf16_len text = sum_by utf16_units text

-- what a byte adds to a column
abbrev pub weight : Counted → ℕ → ℕ
weight Characters = λ b. if begins_character b then 1 else 0
weight Utf16Units = utf16_units
