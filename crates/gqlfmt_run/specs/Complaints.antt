-- What the program says on standard error of a text that it was to format.
use Rattle.std.specs.Prelude.{◌≡◌, ◌⊎◌, ℕ, List, Result, Ok, Err}
use Rattle.std.specs.declared.io.Error.{Error}
use Rattle.apollo_parser.specs.Diagnostics.{Diagnostic}
use Rattle.apollo_parser.specs.declared.Limits.{Limits}
use Rattle.marked_lines.specs.Places.{BeginsWith, place}
use Rattle.first_errors.specs.Places.{IsFirstErrorOf, shown_at}
use Rattle.byte_streams.specs.Devices.{Account}
use Rattle.byte_streams.specs.declared.fault.Fault.{Fault}
use Rattle.command_lines.specs.Complaints.{Tells, TellsOfFile, line_about}
use Rattle.command_lines.specs.Streams.{IsSaid}
use Rattle.command_lines.specs.declared.complaints.FileFault.{FileFault}
use Rattle.command_lines.specs.declared.complaints.FileFault.TheVariants.{NotRead, NotReplaced, Device}
use Rattle.gqlfmt_run.specs.Formatting.{HasErrors, HasOutgrown, IsTooLong}
use Rattle.gqlfmt_run.specs.declared.command.TheConstants.{PROGRAM}
use Rattle.gqlfmt_run.specs.declared.job.Bounds.{Bounds}
use Rattle.gqlfmt_run.specs.declared.report.TheConstants.{COPY_ADVICE, OUTGROWN, TOO_LONG}
use Rattle.gqlfmt_run.specs.declared.settlement.Settled.{Settled}
use Rattle.gqlfmt_run.specs.declared.settlement.Settled.TheVariants.{Done, Found, Refused}

-- ---- why a text is refused

-- The report on a text with errors begins with the text's name and the place where its first error is shown. What
-- follows is not stated.
pub record IsErrorReport (limits : Limits) (name source report : List ℕ) : Type 0 where
  pub error : Diagnostic
  pub is_first : IsFirstErrorOf limits source error
  pub begins : BeginsWith report (place name source (shown_at source error))

-- why a source of this name is left as it is: its errors, or in a line that its formatted text would have too many
-- tokens or bytes
abbrev pub IsReason : Bounds → List ℕ → List ℕ → List ℕ → Type 0
IsReason bounds name source report =
    (HasErrors bounds.limits source × IsErrorReport bounds.limits name source report)
    ⊎ (HasOutgrown bounds.limits source × (report ≡ line_about PROGRAM.now name OUTGROWN.now))
    ⊎ (IsTooLong bounds source × (report ≡ line_about PROGRAM.now name TOO_LONG.now))

-- That is said.
abbrev pub SaysReason : Bounds → List ℕ → List ℕ → Account → Account → Type 0
SaysReason bounds name source old new = (report : List ℕ) × IsReason bounds name source report × IsSaid report old new

-- ---- standard input

-- Nothing is said of a text that was handled, and why one was not.
abbrev pub SaysFault : {T : Type 0} → List ℕ → Result T Fault → Account → Account → Type 0
SaysFault name (Ok outcome) old new = new ≡ old
SaysFault name (Err fault) old new = Tells PROGRAM.now name fault old new

-- What is said of a source that was to be formatted: nothing where it has the layout or another one, and why where it
-- is refused or was not formatted.
abbrev pub Says : Bounds → List ℕ → List ℕ → Result Settled Fault → Account → Account → Type 0
Says bounds name source (Ok Done) old new = new ≡ old
Says bounds name source (Ok Found) old new = new ≡ old
Says bounds name source (Ok Refused) old new = SaysReason bounds name source old new
Says bounds name source (Err fault) old new = Tells PROGRAM.now name fault old new

-- ---- files

-- A copy of a file may be named.
abbrev pub MayMentionCopy : Account → Account → Type 0
MayMentionCopy old new = (new ≡ old) ⊎ ((copy : List ℕ) × IsSaid (line_about PROGRAM.now copy COPY_ADVICE.now) old new)

-- That may be after the file was not replaced.
abbrev pub MentionsCopy : FileFault → Account → Account → Type 0
MentionsCopy (NotReplaced error) old new = MayMentionCopy old new
MentionsCopy (NotRead error) old new = new ≡ old
MentionsCopy (Device fault) old new = new ≡ old

-- why the file at a path was not formatted, and then of a copy
abbrev pub TellsOfFileAndCopy : List ℕ → FileFault → Account → Account → Type 0
TellsOfFileAndCopy path fault old new =
    (middle : Account) × TellsOfFile PROGRAM.now path fault old middle × MentionsCopy fault middle new

abbrev pub SaysFileFault : {T : Type 0} → List ℕ → Result T FileFault → Account → Account → Type 0
SaysFileFault path (Ok outcome) old new = new ≡ old
SaysFileFault path (Err fault) old new = TellsOfFileAndCopy path fault old new

-- What is said of the file at a path, by the result of the read: the same as of standard input. Only a text that was
-- read is refused.
abbrev pub SaysOfFile : Bounds → List ℕ → Result (List ℕ) Error → Result Settled FileFault → Account → Account → Type 0
SaysOfFile bounds path given (Ok Done) old new = new ≡ old
SaysOfFile bounds path given (Ok Found) old new = new ≡ old
SaysOfFile bounds path (Ok source) (Ok Refused) old new = SaysReason bounds path source old new
SaysOfFile bounds path (Err error) (Ok Refused) old new = ⊥
SaysOfFile bounds path given (Err fault) old new = TellsOfFileAndCopy path fault old new

-- ---- what the calls below a run say

-- Nothing is said but why a text is refused.
abbrev pub IsSilent : {E : Type 0} → Bounds → List ℕ → Result (List ℕ) Error → Result Settled E → Account
    → Account → Type 0
IsSilent bounds name given (Ok Done) old new = new ≡ old
IsSilent bounds name given (Ok Found) old new = new ≡ old
IsSilent bounds name (Ok source) (Ok Refused) old new = SaysReason bounds name source old new
IsSilent bounds name (Err error) (Ok Refused) old new = ⊥
IsSilent bounds name given (Err fault) old new = new ≡ old
