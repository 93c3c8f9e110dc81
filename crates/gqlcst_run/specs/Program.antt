-- What a run of the program does, by the request in its words, and what it writes in each mode.
use Rattle.std.specs.List.{Contains}
use Rattle.std.specs.Prelude.{◌≡◌, ◌⊎◌, ℕ, List, [], Option, Some, None, Result}
use Rattle.apollo_parser.specs.Answers.{limited}
use Rattle.apollo_parser.specs.Cut.{Cut}
use Rattle.apollo_parser.specs.Diagnostics.{Diagnostic}
use Rattle.apollo_parser.specs.Reads.{items_of}
use Rattle.apollo_parser.specs.declared.Limits.{Limits}
use Rattle.byte_streams.specs.Runs.{Reads, Writes}
use Rattle.byte_streams.specs.declared.fault.Fault.{Fault}
use Rattle.command_lines.specs.Gqlcst.{request_of}
use Rattle.command_lines.specs.Streams.{OnlyExplains, OnlyPrints, OnlySays, Streams, no_memory}
use Rattle.command_lines.specs.declared.gqlcst.Mode.{Mode}
use Rattle.command_lines.specs.declared.gqlcst.Mode.TheVariants.{Check, Tokens, Tree}
use Rattle.command_lines.specs.declared.information.Information.{Information}
use Rattle.command_lines.specs.declared.information.Information.TheVariants.{Help, Version}
use Rattle.command_lines.specs.declared.information.Request.{Request}
use Rattle.command_lines.specs.declared.information.Request.TheVariants.{Print, Process}
use Rattle.gqlcst_run.specs.Ending.{Says, status_of}
use Rattle.gqlcst_run.specs.Parsing.{finding_of, IsFound}
use Rattle.gqlcst_run.specs.Rendering.{AreLines, IsAnswerForm, IsVerdict, error_count}
use Rattle.gqlcst_run.specs.declared.command.TheConstants.{HELP, PROGRAM, USAGE, VERSION}
use Rattle.gqlcst_run.specs.declared.finding.Finding.{Finding}

-- What is written of a text in mode check: `clean`, or the errors that are found in it and their number.
pub record IsCheck (limits : Limits) (text : List ℕ) (finding : Finding) (output : List ℕ) : Type 0 where
  pub errors : List Diagnostic
  pub found : IsFound limits text errors finding
  pub verdict : IsVerdict errors output

-- What is written of a text in mode tokens: a line for each item that it is cut into, or a line for the limit in place
-- of those beyond it.
pub record IsTokens (limit : ℕ) (text : List ℕ) (finding : Finding) (output : List ℕ) : Type 0 where
  pub cut : Cut text (items_of text)
  pub lines : AreLines IsAnswerForm (limited limit (items_of text)) output
  pub counted : finding ≡ finding_of (error_count (limited limit (items_of text)))

-- What is found of a text in mode tree. What is written, the form of its tree, is not stated.
pub record IsTree (limits : Limits) (text : List ℕ) (finding : Finding) : Type 0 where
  pub errors : List Diagnostic
  pub found : IsFound limits text errors finding

abbrev pub IsOutput : Mode → Limits → List ℕ → Finding → List ℕ → Type 0
IsOutput Check limits text finding output = IsCheck limits text finding output
IsOutput Tokens limits text finding output = IsTokens limits.tokens text finding output
IsOutput Tree limits text finding output = IsTree limits text finding

-- A text is read, what the mode shows of it is written, and why that failed is said.
pub record ShowsInput (mode : Mode) (limits : Limits) (status : ℕ) (old new : Streams) : Type 0 where
  pub ended : Result Finding Fault
  pub input : List ℕ
  pub reads : Reads ended input old.input new.input
  pub writes : Writes (IsOutput mode limits) ended input old.output new.output
  pub says : Says ended old.complaints new.complaints
  pub counted : status ≡ status_of ended

abbrev pub information_text : Information → List ℕ
information_text Help = HELP.now
information_text Version = VERSION.now

-- What a run does for the request in its words. Where there is none, a word is wrong, or there is none.
abbrev pub Does : List (List ℕ) → Option (Request (Mode × Limits)) → ℕ → Streams → Streams → Type 0
Does words (Some (Print page)) status old new = OnlyPrints PROGRAM.now (information_text page) status old new
Does words (Some (Process command)) status old new = ShowsInput command.0 command.1 status old new
Does words None status old new =
    OnlyExplains PROGRAM.now USAGE.now (λ word. Contains words word ⊎ (word ≡ [])) status old new

-- What a run does: that, or it says that memory was refused before the last of its words was read, and nothing else.
abbrev pub Runs : List (List ℕ) → ℕ → Streams → Streams → Type 0
Runs words status old new =
    Does words (request_of words) status old new ⊎ OnlySays (no_memory PROGRAM.now) status old new
