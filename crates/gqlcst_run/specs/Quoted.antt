-- How a text is written between quotes.
use Rattle.std.specs.Char.{is_ascii}
use Rattle.std.specs.Fmt.{debug_escape}
use Rattle.std.specs.List.{flat_map, list_all}
use Rattle.std.specs.Prelude.{◌≡◌, ℕ, Bool, true, ◌&&◌, ◌||◌, not, List, nat_lt, nat_le, ◌==◌}

-- the byte is written as it is
abbrev pub is_plain : ℕ → Bool
is_plain b = nat_le 32 b && (nat_le b 126 && (not (b == 34) && not (b == 92)))

-- the byte is a control character of ASCII
abbrev pub is_control : ℕ → Bool
is_control b = nat_lt b 32 || b == 127

-- The form of a text between quotes, which is stated for ASCII.
abbrev pub IsEscaped : List ℕ → List ℕ → Type 0
IsEscaped text form = list_all is_ascii text ≡ true → form ≡ flat_map (debug_escape 34) text
