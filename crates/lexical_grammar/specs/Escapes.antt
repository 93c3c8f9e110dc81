-- Escapes, as they are read at the front of a text.
use Rattle.std.specs.Char.{digit_value}
use Rattle.std.specs.Prelude.{◌≡◌, ℕ, ◌<◌, ◌≤◌, true, false, List, length, Option, Some, None, encode_utf8}
use Rattle.lexical_grammar.specs.Characters.{is_hex_digit}
use Rattle.lexical_grammar.specs.Reads.{begins_fixed_escape, fixed_value, string_character_len, string_character_value}

-- the number that a hex digit spells
abbrev pub IsHexDigit : ℕ → Option ℕ → Type 0
IsHexDigit b None = is_hex_digit b ≡ false
IsHexDigit b (Some d) = (is_hex_digit b ≡ true) × (d ≡ digit_value b) × (d < 16)

-- the number that a fixed escape at the front spells
abbrev pub IsFixedValue : List ℕ → Option ℕ → Type 0
IsFixedValue text None = begins_fixed_escape text ≡ false
IsFixedValue text (Some v) = (begins_fixed_escape text ≡ true) × (v ≡ fixed_value text) × (v < 65536)

-- a string character of `len` bytes is at the front, and represents the character
pub record IsEscape (text : List ℕ) (character len : ℕ) : Type 0 where
  pub value : encode_utf8 character ≡ string_character_value text
  pub bytes : len ≡ string_character_len text
  pub some : 0 < len
  pub within : len ≤ length text

-- what is read of an escape at the front: its character and its length, or nothing where no string character is
abbrev pub IsReadEscape : List ℕ → Option (ℕ × ℕ) → Type 0
IsReadEscape text None = string_character_len text ≡ 0
IsReadEscape text (Some read) = IsEscape text read.0 read.1
