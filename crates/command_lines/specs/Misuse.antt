-- What is said of a word that is wrong.
use Rattle.std.specs.List.{Contains}
use Rattle.std.specs.Prelude.{◌≡◌, ◌⊎◌, ℕ, List, [], ◌++◌, codes, Result, Ok, Err}
use Rattle.marked_lines.specs.Escaping.{shown}
use Rattle.command_lines.specs.declared.misuse.Mistake.{Mistake}
use Rattle.command_lines.specs.declared.misuse.Mistake.TheVariants.{Unknown, NoOption, UnknownMode, NoMode, NoValue}
use Rattle.command_lines.specs.declared.misuse.Mistake.TheVariants.{NoNumber, NoLineEnding, NoFormat, UnknownRule}
use Rattle.command_lines.specs.declared.misuse.Mistake.TheVariants.{Again, BesideFiles}
use Rattle.command_lines.specs.declared.misuse.WordsError.{WordsError}
use Rattle.command_lines.specs.declared.misuse.WordsError.TheVariants.{Usage, Memory}

-- what comes before the word
abbrev pub before : Mistake → List ℕ
before Unknown = codes "unknown option "
before NoOption = []
before UnknownMode = codes "unknown mode "
before NoMode = codes "no mode is given"
before NoValue = []
before NoNumber = []
before NoLineEnding = []
before NoFormat = []
before UnknownRule = codes "unknown rule "
before Again = []
before BesideFiles = []

-- and what comes after it
abbrev pub after : Mistake → List ℕ
after Unknown = []
after NoOption = codes " is no option"
after UnknownMode = []
after NoMode = []
after NoValue = codes " has no value"
after NoNumber = codes " takes a number"
after NoLineEnding = codes " takes lf, crlf or keep"
after NoFormat = codes " takes text, json, github or sarif"
after UnknownRule = []
after Again = codes " is given twice, or beside an option that excludes it"
after BesideFiles = codes " is given beside files"

-- a program's line about the word, with escapes for characters that would not be seen
abbrev pub complaint : List ℕ → List ℕ → Mistake → List ℕ
complaint program word mistake = program ++ codes ": " ++ before mistake ++ shown word ++ after mistake ++ codes "\n"

-- It is one of the words of a call, or the dash.
abbrev pub IsAmong : List (List ℕ) → List ℕ → Type 0
IsAmong words word = Contains words word ⊎ (word ≡ codes "-")

-- Where a word is wrong, it is one of these.
abbrev pub IsAbout : {P : Type 0} → (List ℕ → Type 0) → Result P WordsError → Type 0
IsAbout wrong (Ok value) = Unit {0}
IsAbout wrong (Err (Usage misuse)) = wrong misuse.word.now
IsAbout wrong (Err Memory) = Unit {0}
