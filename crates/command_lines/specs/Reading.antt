-- What the code has read, with texts as they are.
use Rattle.std.specs.Prelude.{◌≡◌, ℕ, List, map, drop, Option, None, Result, Ok, Err}
use denote.Ref.{Bor}
use Rattle.command_lines.specs.Options.{Given, Row}
use Rattle.command_lines.specs.Words.{texts}
use Rattle.command_lines.specs.declared.misuse.WordsError.{WordsError}
use Rattle.command_lines.specs.declared.misuse.WordsError.TheVariants.{Usage, Memory}
use Rattle.command_lines.specs.declared.options.Plan.{Plan}
use Rattle.command_lines.specs.declared.options.Takes.{Takes}
use Rattle.command_lines.specs.declared.options.Value.{Value}
use Rattle.command_lines.specs.declared.options.Value.TheVariants.{Flag, Number as NumberValue, Text as TextValue}

abbrev pub as_row : Bor (List ℕ) × Bor (List ℕ) × Takes → Row
as_row row = (row.0.now, row.1.now, row.2)

abbrev pub as_rows : List (Bor (List ℕ) × Bor (List ℕ) × Takes) → List Row
as_rows rows = map as_row rows

abbrev pub as_value : Value (Bor (List ℕ)) → Value (List ℕ)
as_value Flag = Flag
as_value (NumberValue n) = NumberValue n
as_value (TextValue text) = TextValue text.now

abbrev pub as_settings : List (Bor (List ℕ) × Value (Bor (List ℕ))) → List (List ℕ × Value (List ℕ))
as_settings settings = map (λ set. (set.0.now, as_value set.1)) settings

-- what words have given
abbrev pub as_given : {A : Type 0} → Plan A → Given
as_given plan = record {
  settings = as_settings plan.settings.items;
  input = plan.input;
  files = texts plan.files.items;
}

-- What was wanted of a word and of some after it is what `given_from` says of those left, of which as many are gone as
-- are answered; or the program is not called so.
module _ {R : Type 0} (wanted : Option R) (given_from : List (List ℕ) → Option R) (more : List (Bor (List ℕ))) where
  abbrev pub IsTaken : Result ℕ WordsError → Type 0
  IsTaken (Ok count) = wanted ≡ given_from (texts (drop count more))
  IsTaken (Err (Usage misuse)) = wanted ≡ None
  IsTaken (Err Memory) = Unit {0}
