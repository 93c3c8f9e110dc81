-- Judging the texts of a run together, and writing what is found.
use Rattle.std.specs.List.{zip}
use Rattle.std.specs.Prelude.{◌≡◌, ◌⊎◌, ◌↔◌, ℕ, max, true, false, List, [], All, map, Result, Ok, Err}
use Rattle.document_checks.specs.Checking.{Asked, PassTogether}
use Rattle.document_checks.specs.Findings.{IsReport}
use Rattle.document_checks.specs.Passing.{PassEach}
use Rattle.document_checks.specs.Warnings.{WarnEach}
use Rattle.document_checks.specs.declared.report.Report.{Report}
use Rattle.byte_streams.specs.Devices.{Account, moved}
use Rattle.byte_streams.specs.Writing.{IsBroken}
use Rattle.byte_streams.specs.declared.fault.Fault.{Fault}
use Rattle.byte_streams.specs.declared.fault.Fault.TheVariants.{Read, Utf8, Memory, Write}
use Rattle.command_lines.specs.Streams.{IsSaid, no_memory}
use Rattle.named_files.specs.Handling.{InTurn}
use Rattle.gqlcheck_run.specs.Ending.{Says, prints_figures, status_of, verdict_of}
use Rattle.gqlcheck_run.specs.Inputs.{Input, as_input, text_of}
use Rattle.gqlcheck_run.specs.Rendering.{BeginsAtFirst}
use Rattle.gqlcheck_run.specs.declared.command.TheConstants.{PROGRAM}
use Rattle.gqlcheck_run.specs.declared.inputs.Input as declared
use Rattle.gqlcheck_run.specs.declared.job.Printing.{Printing}

-- a text, and what is found of it
pub record Judged : Type 0 where
  pub input : Input
  pub report : Report

abbrev pub as_judged : {A : Type 0} → declared.Input A × Report → Judged
as_judged it = record { input = as_input it.0; report = it.1 }

abbrev pub judged_by : {A : Type 0} → List (declared.Input A) → List Report → List Judged
judged_by inputs reports = map as_judged (zip inputs reports)

-- What is written of a text: first the place of the first finding. If there is none, nothing is written, unless figures
-- are wanted. How more findings and figures are printed is not stated.
pub record IsOutput (printing : Printing) (judged : Judged) (output : List ℕ) : Type 0 where
  pub found : BeginsAtFirst printing.format judged.input.name judged.input.text judged.report.findings.items output
  pub quiet : judged.report.findings.items ≡ [] → prints_figures printing ≡ false → output ≡ []

-- what went through standard output and standard error
pub record Printed : Type 0 where
  pub output : Account
  pub complaints : Account

-- An output is written, or a beginning of it. Nothing is where memory is refused for it.
abbrev pub Prints : (List ℕ → Type 0) → Result (Unit {0}) Fault → Account → Account → Type 0
Prints IsOutputHere (Ok done) old new = (output : List ℕ) × IsOutputHere output × (new ≡ moved old output)
Prints IsOutputHere (Err Write) old new = (output : List ℕ) × IsOutputHere output × IsBroken output old new
Prints IsOutputHere (Err Memory) old new = new ≡ old
Prints IsOutputHere (Err Read) old new = ⊥
Prints IsOutputHere (Err Utf8) old new = ⊥

-- That is written of a text, or it is said why not.
pub record WritesReport (printing : Printing) (judged : Judged) (status : ℕ) (old new : Printed) : Type 0 where
  pub ended : Result (Unit {0}) Fault
  pub prints : Prints (IsOutput printing judged) ended old.output new.output
  pub says : Says judged.input.name ended old.complaints new.complaints
  pub counted : status ≡ max (verdict_of judged.report.passes) (status_of ended)

-- Something keeps the texts from passing exactly if they do not pass together. `PassEach` has which texts pass, and
-- `WarnEach` which of these have warnings. Each report says what `IsReport` has: one with which a text does not pass
-- begins with an error, and any other has warnings alone. They are written, one after the other.
pub record JudgesAndWrites (asked : Asked) (printing : Printing) (inputs : List Input) (status : ℕ)
    (old new : Printed) : Type 0 where
  pub judged : List Judged
  pub each : map (λ it. it.input) judged ≡ inputs
  pub together : All (λ it. it.report.passes ≡ true) judged ↔ PassTogether asked (map text_of inputs)
  pub found : All (λ it. IsReport asked.limits it.input.text it.report) judged
  pub which : PassEach asked (map text_of inputs) (map (λ it. it.report) judged)
  pub warned : WarnEach asked (map text_of inputs) (map (λ it. it.report) judged)
  pub writes : InTurn (WritesReport printing) judged status old new

-- That is done; or memory is refused for judging them, and only that is said.
abbrev pub JudgesTexts : Asked → Printing → List Input → ℕ → Printed → Printed → Type 0
JudgesTexts asked printing inputs status old new =
    JudgesAndWrites asked printing inputs status old new
    ⊎ ((status ≡ 2) × (new.output ≡ old.output) × IsSaid (no_memory PROGRAM.now) old.complaints new.complaints)
