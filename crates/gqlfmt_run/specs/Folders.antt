-- What happens to the files that paths of the command line name.
use Rattle.std.specs.Prelude.{◌≡◌, ℕ, Bool, true, false, List, Result, Ok, Err}
use Rattle.std.specs.declared.io.Error.{Error}
use Rattle.file_access.specs.Listing.{Listing}
use Rattle.command_lines.specs.Complaints.{TellsOfFile}
use Rattle.command_lines.specs.declared.complaints.FileFault.TheVariants.{NotRead}
use Rattle.command_lines.specs.declared.gqlfmt.Mode.{Mode}
use Rattle.named_files.specs.Handling.{Desk, HandlesNamed, InTurn}
use Rattle.gqlfmt_run.specs.Paths.{FormatsFound}
use Rattle.gqlfmt_run.specs.declared.command.TheConstants.{PROGRAM}
use Rattle.gqlfmt_run.specs.declared.job.Bounds.{Bounds}

-- the files, as a trait tells what three of its calls do
module _ {S : Type 0} (lists : S → List ℕ → Listing → S → Type 0)
    (reads : S → List ℕ → Result (List ℕ) Error → S → Type 0)
    (replaces : S → List ℕ → List ℕ → Bool → S → Type 0) (mode : Mode) (bounds : Bounds) where
  -- the files that a path names are found and formatted
  abbrev pub FormatsNamed : List ℕ → ℕ → Desk S → Desk S → Type 0
  FormatsNamed path status old new =
      HandlesNamed lists PROGRAM.now (FormatsFound reads replaces bounds mode) path status old new

-- the files, as a trait tells what four of its calls do
module _ {S : Type 0} (lists : S → List ℕ → Listing → S → Type 0) (omits : S → List ℕ → Result Bool Error → S → Type 0)
    (reads : S → List ℕ → Result (List ℕ) Error → S → Type 0) (replaces : S → List ℕ → List ℕ → Bool → S → Type 0)
    (mode : Mode) (bounds : Bounds) where
  -- What follows the answer whether a path is left alone. It is, or what it names is formatted. Where there is no
  -- answer, nothing is done but to say why.
  abbrev pub FollowsAnswer : Result Bool Error → List ℕ → ℕ → Desk S → Desk S → Type 0
  FollowsAnswer (Ok true) path status old new = (status ≡ 0) × (new ≡ old)
  FollowsAnswer (Ok false) path status old new = FormatsNamed lists reads replaces mode bounds path status old new
  FollowsAnswer (Err error) path status old new =
      (status ≡ 2) × TellsOfFile PROGRAM.now path (NotRead error) old.complaints new.complaints
      × (new.files ≡ old.files) × (new.output ≡ old.output)

  -- The files are asked whether a path is left alone, and this follows.
  pub record HandlesPath (path : List ℕ) (status : ℕ) (old new : Desk S) : Type 0 where
    pub answer : Result Bool Error
    pub asked : S
    pub asks : omits old.files path answer asked
    pub follows : FollowsAnswer answer path status (record old { files = asked }) new

  -- the same for these paths, one after the other
  abbrev pub HandlesPaths : List (List ℕ) → ℕ → Desk S → Desk S → Type 0
  HandlesPaths paths status old new = InTurn HandlesPath paths status old new
