-- What a search finds at the front of a text, for one that reads how far a string goes.
use Rattle.std.specs.Prelude.{◌≡◌, ℕ, ◌+◌, ◌<◌, ◌≤◌, List, length, drop, Option, Some, None, option_map}
use Rattle.lexical_grammar.specs.Reads.{bad_string_len}
use Rattle.apollo_lexer.specs.declared.strings.StringPart.{StringPart}
use Rattle.apollo_lexer.specs.declared.strings.StringPart.TheVariants.{Open, Last, Inner}

-- none; the whole; or some bytes, and then what is read after them
abbrev pub IsStringPart : (List ℕ → Option ℕ) → List ℕ → StringPart → Type 0
IsStringPart read rest Open = read rest ≡ None
IsStringPart read rest (Last n) = (n ≤ length rest) × (read rest ≡ Some n)
IsStringPart read rest (Inner n) =
    (0 < n) × (n ≤ length rest) × (read rest ≡ option_map (λ m. n + m) (read (drop n rest)))

-- a bad string has an end
abbrev pub read_bad : List ℕ → Option ℕ
read_bad text = Some (bad_string_len 0 text)
