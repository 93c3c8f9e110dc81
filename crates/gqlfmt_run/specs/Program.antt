-- What a run of the program does, by the request in its words.
use Rattle.std.specs.Prelude.{◌≡◌, ◌⊎◌, ℕ, Bool, true, false, List, [], ◌∷◌, Option, Some, None, Result, Ok, Err}
use Rattle.std.specs.Prelude.{MatchBool, bytes_eq}
use Rattle.std.specs.declared.io.Error.{Error}
use Rattle.byte_streams.specs.Runs.{Reads, Writes}
use Rattle.byte_streams.specs.declared.fault.Fault.{Fault}
use Rattle.file_access.specs.Listing.{Listing}
use Rattle.command_lines.specs.Complaints.{TellsOfFile}
use Rattle.command_lines.specs.Gqlfmt.{line_endings_of, mode_of, most_output_of, name_of, request_of}
use Rattle.command_lines.specs.Misuse.{IsAmong}
use Rattle.command_lines.specs.Options.{Given, limits_of}
use Rattle.command_lines.specs.Streams.{Streams, OnlyPrints, OnlySays, OnlyExplains, no_memory}
use Rattle.command_lines.specs.declared.complaints.FileFault.TheVariants.{NotRead}
use Rattle.command_lines.specs.declared.gqlfmt.Mode.{Mode}
use Rattle.command_lines.specs.declared.gqlfmt.TheConstants.{INPUT}
use Rattle.command_lines.specs.declared.information.Information.{Information}
use Rattle.command_lines.specs.declared.information.Information.TheVariants.{Help, Version}
use Rattle.command_lines.specs.declared.information.Request.{Request}
use Rattle.command_lines.specs.declared.information.Request.TheVariants.{Print, Process}
use Rattle.named_files.specs.Handling.{State, desk, streams}
use Rattle.gqlfmt_run.specs.Complaints.{Says, SaysFault}
use Rattle.gqlfmt_run.specs.Folders.{HandlesPaths}
use Rattle.gqlfmt_run.specs.Input.{IsOutput, PassesOn}
use Rattle.gqlfmt_run.specs.Status.{status_of}
use Rattle.gqlfmt_run.specs.declared.command.TheConstants.{PROGRAM, USAGE, HELP, VERSION}
use Rattle.gqlfmt_run.specs.declared.job.Bounds.{Bounds}
use Rattle.gqlfmt_run.specs.declared.settlement.Settled.{Settled}

abbrev pub information_text : Information → List ℕ
information_text Help = HELP.now
information_text Version = VERSION.now

-- what a run keeps to
abbrev pub bounds_of : Given → Bounds
bounds_of given = record {
  limits = limits_of given;
  most_output = most_output_of given;
  line_endings = line_endings_of given;
}

-- Standard input is read, what comes of it is written, and why it is refused or was not formatted is said, under this
-- name.
pub record FormatsInput (mode : Mode) (bounds : Bounds) (name : List ℕ) (status : ℕ) (old new : Streams) : Type 0 where
  pub ended : Result Settled Fault
  pub input : List ℕ
  pub reads : Reads ended input old.input new.input
  pub writes : Writes (IsOutput mode bounds name) ended input old.output new.output
  pub says : Says bounds name input ended old.complaints new.complaints
  pub counted : status ≡ status_of ended

-- Standard input is read and passed on as it is, and why that failed is said, under this name.
pub record KeepsInput (mode : Mode) (name : List ℕ) (status : ℕ) (old new : Streams) : Type 0 where
  pub ended : Result Settled Fault
  pub input : List ℕ
  pub reads : Reads ended input old.input new.input
  pub passes : PassesOn mode ended input old.output new.output
  pub says : SaysFault name ended old.complaints new.complaints
  pub counted : status ≡ status_of ended

-- What follows the answer whether standard input is left alone, which is to be the text of the file at this path. It is
-- passed on or formatted. Where there is no answer, nothing is done but to say why.
abbrev pub InputFollows : Result Bool Error → Mode → Bounds → List ℕ → ℕ → Streams → Streams → Type 0
InputFollows (Ok true) mode bounds path status old new = KeepsInput mode path status old new
InputFollows (Ok false) mode bounds path status old new = FormatsInput mode bounds path status old new
InputFollows (Err error) mode bounds path status old new =
    (status ≡ 2) × TellsOfFile PROGRAM.now path (NotRead error) old.complaints new.complaints × (new.input ≡ old.input)
    × (new.output ≡ old.output)

-- the files, as a trait tells what four of its calls do
module _ {S : Type 0} (lists : S → List ℕ → Listing → S → Type 0) (omits : S → List ℕ → Result Bool Error → S → Type 0)
    (reads : S → List ℕ → Result (List ℕ) Error → S → Type 0) (replaces : S → List ℕ → List ℕ → Bool → S → Type 0) where
  -- The files are asked whether standard input is left alone, by its path, and this follows.
  pub record AsksOfInput (mode : Mode) (bounds : Bounds) (path : List ℕ) (status : ℕ) (old new : State S) : Type 0 where
    pub answer : Result Bool Error
    pub asks : omits old.files path answer new.files
    pub follows : InputFollows answer mode bounds path status (streams old) (streams new)

  -- Standard input is handled. Where it has no path, it is formatted.
  abbrev pub HandlesInput : Mode → Bounds → List ℕ → ℕ → State S → State S → Type 0
  HandlesInput mode bounds name status old new =
      MatchBool (bytes_eq name INPUT.now)
      (FormatsInput mode bounds name status (streams old) (streams new) × (new.files ≡ old.files))
      (AsksOfInput mode bounds name status old new)

  -- the files that these paths name are handled, or standard input where there are none
  abbrev pub Formats : Mode → Bounds → List ℕ → List (List ℕ) → ℕ → State S → State S → Type 0
  Formats mode bounds name [] status old new = HandlesInput mode bounds name status old new
  Formats mode bounds name (path ∷ paths) status old new =
      (new.input ≡ old.input)
      × HandlesPaths lists omits reads replaces mode bounds (path ∷ paths) status (desk old) (desk new)

  -- What a run does for the request in its words. Where there is none, a word is wrong.
  abbrev pub Does : List (List ℕ) → Option (Request Given) → ℕ → State S → State S → Type 0
  Does words (Some (Print page)) status old new =
      OnlyPrints PROGRAM.now (information_text page) status (streams old) (streams new) × (new.files ≡ old.files)
  Does words (Some (Process given)) status old new =
      Formats (mode_of given) (bounds_of given) (name_of given) given.files status old new
  Does words None status old new =
      OnlyExplains PROGRAM.now USAGE.now (IsAmong words) status (streams old) (streams new) × (new.files ≡ old.files)

  -- What a run does: that, or it says that memory was refused before the last of its words was read, and nothing else.
  abbrev pub Runs : List (List ℕ) → ℕ → State S → State S → Type 0
  Runs words status old new =
      Does words (request_of words) status old new
      ⊎ (OnlySays (no_memory PROGRAM.now) status (streams old) (streams new) × (new.files ≡ old.files))
