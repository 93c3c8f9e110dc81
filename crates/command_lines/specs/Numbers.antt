-- Numbers in decimal digits.
use Rattle.std.specs.Prelude.{ℕ, ◌^◌, Bool, ◌&&◌, nat_lt, List, length, if◌then◌else◌, Option, Some, None}
use Rattle.std.specs.Str.{all_ascii_digits}
use Rattle.std.specs.Str.Parse.{digits_value}

-- one or more decimal digits, whose number fits in a usize
abbrev pub is_number : List ℕ → Bool
is_number word = (nat_lt 0 (length word) && all_ascii_digits word) && nat_lt (digits_value 10 word) (2 ^ 64)

abbrev pub number_of : List ℕ → Option ℕ
number_of word = if is_number word then Some (digits_value 10 word) else None
