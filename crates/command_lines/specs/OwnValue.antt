-- An option and its value in one word: `--name=value`.
use Rattle.std.specs.List.{after_first, before_first, position_or_len}
use Rattle.std.specs.Prelude.{ℕ, Bool, ◌==◌, not, List, length}

abbrev pub is_equals : ℕ → Bool
is_equals b = b == 61

-- whether there is an equals sign in the word
abbrev pub has_own_value : List ℕ → Bool
has_own_value word = not (position_or_len is_equals word == length word)

-- the option: what is before the first one
abbrev pub option_name : List ℕ → List ℕ
option_name word = before_first is_equals word

-- its value: what is after it
abbrev pub own_value : List ℕ → List ℕ
own_value word = after_first is_equals word
