-- How reading a text ends, or writing of it: the status for it, and what is said.
use Rattle.std.specs.Prelude.{◌≡◌, ◌&&◌, ℕ, Bool, true, false, List, Result, Ok, Err}
use Rattle.byte_streams.specs.Devices.{Account}
use Rattle.byte_streams.specs.declared.fault.Fault.{Fault}
use Rattle.command_lines.specs.Complaints.{Tells, TellsOfFile}
use Rattle.command_lines.specs.declared.complaints.FileFault.{FileFault}
use Rattle.command_lines.specs.declared.gqlcheck.Format.{Format}
use Rattle.command_lines.specs.declared.gqlcheck.Format.TheVariants.{Text, Json, Github, Sarif}
use Rattle.gqlcheck_run.specs.declared.command.TheConstants.{PROGRAM}
use Rattle.gqlcheck_run.specs.declared.job.Printing.{Printing}

-- 2 where a text was not read, or nothing written of it
abbrev pub status_of : {E : Type 0} → Result (Unit {0}) E → ℕ
status_of (Ok done) = 0
status_of (Err fault) = 2

-- 1 where it does not pass
abbrev pub verdict_of : Bool → ℕ
verdict_of true = 0
verdict_of false = 1

-- the formats that have a place for figures
abbrev pub has_figures : Format → Bool
has_figures Text = true
has_figures Json = true
has_figures Github = false
has_figures Sarif = false

abbrev pub prints_figures : Printing → Bool
prints_figures printing = printing.figures && has_figures printing.format

-- What is said on standard error: nothing where that was done, and why it was not.
abbrev pub Says : List ℕ → Result (Unit {0}) Fault → Account → Account → Type 0
Says name (Ok done) old new = new ≡ old
Says name (Err fault) old new = Tells PROGRAM.now name fault old new

-- the same of a file
abbrev pub SaysOfFile : List ℕ → Result (Unit {0}) FileFault → Account → Account → Type 0
SaysOfFile path (Ok done) old new = new ≡ old
SaysOfFile path (Err fault) old new = TellsOfFile PROGRAM.now path fault old new
