-- The parts of a text.
use Rattle.std.specs.List.{slice_split}
use Rattle.std.specs.Prelude.{◌==◌, ℕ, List}

-- the parts of a text before, between and after bytes
abbrev pub parts : ℕ → List ℕ → List (List ℕ)
parts b text = slice_split (λ c. c == b) text
