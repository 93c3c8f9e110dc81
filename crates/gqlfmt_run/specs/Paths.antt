-- What happens to a file, and what is written of it.
use Rattle.std.specs.Prelude.{◌≡◌, ◌⊎◌, ℕ, Bool, true, false, List, Result, Ok, Err}
use Rattle.std.specs.Str.{IsUtf8}
use Rattle.std.specs.declared.io.Error.{Error}
use Rattle.byte_streams.specs.Devices.{Account}
use Rattle.byte_streams.specs.declared.fault.Fault.TheVariants as fault
use Rattle.byte_streams.specs.declared.fault.Fault.TheVariants.{Read, Utf8, Memory}
use Rattle.command_lines.specs.declared.complaints.FileFault.{FileFault}
use Rattle.command_lines.specs.declared.complaints.FileFault.TheVariants.{NotRead, NotReplaced, Device}
use Rattle.command_lines.specs.declared.gqlfmt.Mode.{Mode}
use Rattle.command_lines.specs.declared.gqlfmt.Mode.TheVariants.{Write}
use Rattle.named_files.specs.Finding.{FoundPath, file, unreadable, path_of}
use Rattle.named_files.specs.Handling as handling
use Rattle.named_files.specs.Handling.{Desk}
use Rattle.gqlfmt_run.specs.Complaints.{SaysOfFile}
use Rattle.gqlfmt_run.specs.Formatting.{IsLaidOut, IsRefused, IsChanged}
use Rattle.gqlfmt_run.specs.Input.{IsOutput}
use Rattle.gqlfmt_run.specs.Status.{status_of}
use Rattle.gqlfmt_run.specs.declared.job.Bounds.{Bounds}
use Rattle.gqlfmt_run.specs.declared.settlement.Settled.{Settled}
use Rattle.gqlfmt_run.specs.declared.settlement.Settled.TheVariants.{Done, Found, Refused}

-- the files, as a trait tells what its two calls do
module _ {S : Type 0} (reads : S → List ℕ → Result (List ℕ) Error → S → Type 0)
    (replaces : S → List ℕ → List ℕ → Bool → S → Type 0) (bounds : Bounds)
  where
    -- The file was asked to be replaced by the formatted text of its own, which is another one.
    pub record IsRewritten (path source : List ℕ) (done : Bool) (old new : S) : Type 0 where
      pub text : List ℕ
      pub changed : IsChanged bounds source text
      pub call : replaces old path text done new

    -- What follows a read that gave this text, in mode write, by the outcome for the file. It is replaced only where it
    -- is rewritten.
    abbrev pub FollowsText : List ℕ → List ℕ → Result Settled FileFault → S → S → Type 0
    FollowsText path source (Ok Done) old new =
        IsUtf8 source × ((IsLaidOut bounds source source × (new ≡ old)) ⊎ IsRewritten path source true old new)
    FollowsText path source (Ok Found) old new = ⊥
    FollowsText path source (Ok Refused) old new = IsUtf8 source × IsRefused bounds source × (new ≡ old)
    FollowsText path source (Err (Device Utf8)) old new = ¬ IsUtf8 source × (new ≡ old)
    FollowsText path source (Err (Device Memory)) old new = new ≡ old
    FollowsText path source (Err (Device fault.Write)) old new = ⊥
    FollowsText path source (Err (Device Read)) old new = ⊥
    FollowsText path source (Err (NotRead error)) old new = ⊥
    FollowsText path source (Err (NotReplaced error)) old new = IsUtf8 source × IsRewritten path source false old new

    -- What follows a read. Where it gave nothing, that is all that happens.
    abbrev pub FollowsRead : List ℕ → Result (List ℕ) Error → Result Settled FileFault → S → S → Type 0
    FollowsRead path (Ok source) ended old new = FollowsText path source ended old new
    FollowsRead path (Err error) (Err (NotRead error')) old new = (error' ≡ error) × (new ≡ old)
    FollowsRead path (Err error) _ old new = ⊥

    -- The file was read once, which gave this, and then left alone or rewritten.
    pub record Rewrites (path : List ℕ) (given : Result (List ℕ) Error) (ended : Result Settled FileFault)
        (old new : S) : Type 0 where
      pub middle : S
      pub read : reads old path given middle
      pub follows : FollowsRead path given ended middle new

    -- In mode write that is done, and nothing is written to standard output. In any other the same is written as of
    -- standard input.
    abbrev pub HandlesFile : Mode → List ℕ → Result (List ℕ) Error → Result Settled FileFault → S → Account
        → S → Account → Type 0
    HandlesFile Write path given ended old output new output' = Rewrites path given ended old new × (output' ≡ output)
    HandlesFile mode path given ended old output new output' =
        reads old path given new × handling.FollowsRead (IsOutput mode bounds path) given ended output output'

    -- A file that was found is handled, and a path that could not be read is left alone.
    abbrev pub HandlesFound : Mode → FoundPath → Result (List ℕ) Error → Result Settled FileFault → S → Account
        → S → Account → Type 0
    HandlesFound mode (file path) given ended old output new output' =
        HandlesFile mode path given ended old output new output'
    HandlesFound mode (unreadable path) given (Err (NotRead error)) old output new output' =
        (new ≡ old) × (output' ≡ output)
    HandlesFound mode found_path given ended old output new output' = ⊥

    -- That is done, and why it was not formatted is said.
    pub record FormatsFound (mode : Mode) (found_path : FoundPath) (status : ℕ) (old new : Desk S) : Type 0 where
      pub ended : Result Settled FileFault
      -- what reading the file gave
      pub given : Result (List ℕ) Error
      pub handles : HandlesFound mode found_path given ended old.files old.output new.files new.output
      pub says : SaysOfFile bounds (path_of found_path) given ended old.complaints new.complaints
      pub counted : status ≡ status_of ended
