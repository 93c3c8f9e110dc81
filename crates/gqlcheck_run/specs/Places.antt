-- Places of findings, as they are printed.
use Rattle.std.specs.Prelude.{◌≡◌, ℕ, Bool, List, [], ◌∷◌, ◌++◌, codes}
use Rattle.json.specs.Json.{Json, Members, member, object, string}
use Rattle.json.specs.Lex.{tokens}
use Rattle.json.specs.Tree.{json_tokens}
use Rattle.marked_lines.specs.Places.{BeginsWith, column_number, line_number, place}
use Rattle.command_lines.specs.declared.gqlcheck.Format.{Format}
use Rattle.command_lines.specs.declared.gqlcheck.Format.TheVariants.{Text, Json as JsonFormat, Github, Sarif}
use Rattle.gqlcheck_run.specs.GithubCommands.{command_at}
use Rattle.gqlcheck_run.specs.Numbers.{capped, json_number}
use Rattle.gqlcheck_run.specs.SarifResults.{artifact_uri, result_at, separator}

-- The output begins with a separator and a line of JSON text that is this value.
pub record BeginsWithLine (before : List ℕ) (value : Json) (output : List ℕ) : Type 0 where
  pub line : List ℕ
  pub is : tokens line ≡ json_tokens value
  pub rest : List ℕ
  pub joined : output ≡ before ++ (line ++ 10 ∷ rest)

-- an object of JSON: the name of a text, the line and the column of a byte offset, both from 1, and other members
abbrev pub json_place : List ℕ → List ℕ → ℕ → Members → Json
json_place name source offset others =
    object (member (codes "file") (string name) (member (codes "line") (json_number (line_number source offset))
    (member (codes "column") (json_number (column_number source offset)) others)))

-- The output begins with a line that is such an object.
abbrev pub BeginsWithJson : List ℕ → List ℕ → ℕ → List ℕ → Type 0
BeginsWithJson name source offset output =
    (others : Members) × BeginsWithLine [] (json_place name source offset others) output

-- The output begins with a line that is a result of a SARIF log, maybe after a comma. That the comma is there exactly
-- if another result comes before is not stated.
abbrev pub BeginsWithResult : List ℕ → List ℕ → ℕ → List ℕ → Type 0
BeginsWithResult uri source offset output =
    (follows : Bool) × (region : Members) × (others : Members)
    × BeginsWithLine (separator follows) (result_at uri source offset region others) output

-- The output begins with the name and a place of a text, where an error or a warning is: for people, as
-- `a.graphql:3:7: `; in JSON; in a command of GitHub Actions; or in a SARIF log.
abbrev pub BeginsAt : Format → Bool → List ℕ → List ℕ → ℕ → List ℕ → Type 0
BeginsAt Text is_warning name source offset output = BeginsWith output (place name source offset)
BeginsAt JsonFormat is_warning name source offset output = BeginsWithJson name source offset output
BeginsAt Github is_warning name source offset output =
    BeginsWith output
    (command_at is_warning name (capped (line_number source offset)) (capped (column_number source offset)))
BeginsAt Sarif is_warning name source offset output = BeginsWithResult (artifact_uri name) source offset output
