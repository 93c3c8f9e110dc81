-- Reading the texts of a run.
use Rattle.std.specs.Prelude.{◌≡◌, ◌≢◌, ◌⊎◌, ℕ, Bool, true, false, List, [], ◌∷◌, Option, Some, None, Result}
use Rattle.std.specs.Prelude.{Ok, Err}
use Rattle.std.specs.declared.io.Error.{Error}
use Rattle.byte_streams.specs.Devices.{Account}
use Rattle.byte_streams.specs.Runs.{Reads}
use Rattle.byte_streams.specs.declared.fault.Fault.{Fault}
use Rattle.byte_streams.specs.declared.fault.Fault.TheVariants.{Read, Memory}
use Rattle.file_access.specs.Listing.{Listing}
use Rattle.command_lines.specs.Complaints.{Tells, TellsOfFile}
use Rattle.command_lines.specs.declared.complaints.FileFault.{FileFault}
use Rattle.command_lines.specs.declared.complaints.FileFault.TheVariants.{Device, NotRead}
use Rattle.named_files.specs.Finding.{FoundPath, IsNamed, Lists, file, unreadable, path_of}
use Rattle.named_files.specs.Handling.{InTurn}
use Rattle.gqlcheck_run.specs.Ending.{Says, SaysOfFile, status_of}
use Rattle.gqlcheck_run.specs.Inputs.{Input, Keeps, Marks, Texts}
use Rattle.gqlcheck_run.specs.declared.command.TheConstants.{PROGRAM}
use Rattle.gqlcheck_run.specs.declared.inputs.TheConstants.{INPUT}

-- Standard input is read to its end, and its text is kept, or it is said why not.
pub record ReadsInput (status : ℕ) (kept kept' : List Input) (old new complaints complaints' : Account) : Type 0 where
  pub ended : Result (Unit {0}) Fault
  pub input : List ℕ
  pub reads : Reads ended input old new
  pub keeps : Keeps INPUT.now ended input kept kept'
  pub says : Says INPUT.now ended complaints complaints'
  pub counted : status ≡ status_of ended

-- The files, what went through standard error, and the texts that are kept.
pub record Reading (S : Type 0) : Type 0 where
  pub files : S
  pub complaints : Account
  pub texts : Texts

-- What is kept after a read of the file of this name. The file was not read only where the read failed.
abbrev pub KeepsRead : List ℕ → Result (List ℕ) Error → Result (Unit {0}) FileFault → List Input → List Input → Type 0
KeepsRead name (Ok bytes) (Ok done) old new = Keeps name (Ok done) bytes old new
KeepsRead name (Ok bytes) (Err (Device fault)) old new = (fault ≢ Read) × Keeps name (Err fault) bytes old new
KeepsRead name (Err error) (Err (NotRead error')) old new = (error' ≡ error) × (new ≡ old)
KeepsRead name given ended old new = ⊥

-- The path of a text that is kept counts as read. Where its file is read and no text is kept, it may.
abbrev pub MarksRead : List ℕ → Result (Unit {0}) FileFault → (List ℕ → Bool) → (List ℕ → Bool) → Type 0
MarksRead path (Ok done) old new = Marks path old new
MarksRead path (Err fault) old new = Marks path old new ⊎ (new ≡ old)

-- the files, as a trait tells what reading one does
module _ {S : Type 0} (reads : S → List ℕ → Result (List ℕ) Error → S → Type 0) where
  -- The file at a path is read once, and its text is kept.
  pub record KeepsFile (path : List ℕ) (ended : Result (Unit {0}) FileFault) (old new : S) (kept kept' : Texts)
      : Type 0 where
    pub given : Result (List ℕ) Error
    pub read : reads old path given new
    pub keeps : KeepsRead path given ended kept.inputs kept'.inputs
    pub marks : MarksRead path ended kept.was_read kept'.was_read

  -- That is done with a file that was not read before. One that was is passed over.
  abbrev pub KeepsOnce : Bool → List ℕ → Result (Unit {0}) FileFault → S → S → Texts → Texts → Type 0
  KeepsOnce true path ended old new kept kept' = (ended ≡ Ok tt) × (new ≡ old) × (kept' ≡ kept)
  KeepsOnce false path ended old new kept kept' = KeepsFile path ended old new kept kept'

  -- The same of a file that was found. A path that could not be read is left alone.
  abbrev pub KeepsFound : FoundPath → Result (Unit {0}) FileFault → S → S → Texts → Texts → Type 0
  KeepsFound (file path) ended old new kept kept' = KeepsOnce (kept.was_read path) path ended old new kept kept'
  KeepsFound (unreadable path) (Err (NotRead error)) old new kept kept' = (new ≡ old) × (kept' ≡ kept)
  KeepsFound found_path ended old new kept kept' = ⊥

  -- That is done, or it is said why not.
  pub record ReadsFound (found_path : FoundPath) (status : ℕ) (old new : Reading S) : Type 0 where
    pub ended : Result (Unit {0}) FileFault
    pub keeps : KeepsFound found_path ended old.files new.files old.texts new.texts
    pub says : SaysOfFile (path_of found_path) ended old.complaints new.complaints
    pub counted : status ≡ status_of ended

-- the same, as a trait tells what listing a folder does, too
module _ {S : Type 0} (lists : S → List ℕ → Listing → S → Type 0)
    (reads : S → List ℕ → Result (List ℕ) Error → S → Type 0) where
  -- The files that a path names are found, and then read one after the other.
  pub record FindsAndReads (path : List ℕ) (status : ℕ) (old new : Reading S) : Type 0 where
    pub found : List FoundPath
    pub middle : S
    pub named : IsNamed lists path found old.files middle
    pub read : InTurn (ReadsFound reads) found status (record old { files = middle }) new

  -- Memory is refused before they are all found: none is read, and that is said.
  pub record GivesUp (path : List ℕ) (status : ℕ) (old new : Reading S) : Type 0 where
    pub fails : status ≡ 2
    pub only_lists : Lists lists old.files new.files
    pub none : new.texts ≡ old.texts
    pub tells : Tells PROGRAM.now path Memory old.complaints new.complaints

  -- one or the other
  abbrev pub ReadsNamed : List ℕ → ℕ → Reading S → Reading S → Type 0
  ReadsNamed path status old new = FindsAndReads path status old new ⊎ GivesUp path status old new

-- the same, as a trait tells whether a path is left out, too
module _ {S : Type 0} (lists : S → List ℕ → Listing → S → Type 0) (omits : S → List ℕ → Result Bool Error → S → Type 0)
    (reads : S → List ℕ → Result (List ℕ) Error → S → Type 0) where
  -- What follows the answer whether a path is left out. It is passed over, or the files that it names are read. Where
  -- there is no answer, nothing is done but to say why.
  abbrev pub FollowsAnswer : Result Bool Error → List ℕ → ℕ → Reading S → Reading S → Type 0
  FollowsAnswer (Ok true) path status old new = (status ≡ 0) × (new ≡ old)
  FollowsAnswer (Ok false) path status old new = ReadsNamed lists reads path status old new
  FollowsAnswer (Err error) path status old new =
      (status ≡ 2) × TellsOfFile PROGRAM.now path (NotRead error) old.complaints new.complaints
      × (new.files ≡ old.files) × (new.texts ≡ old.texts)

  -- The files are asked whether a path is left out, and this follows.
  pub record ReadsPath (path : List ℕ) (status : ℕ) (old new : Reading S) : Type 0 where
    pub answer : Result Bool Error
    pub asked : S
    pub asks : omits old.files path answer asked
    pub follows : FollowsAnswer answer path status (record old { files = asked }) new

  -- The files that these paths name are read, one path after the other, or standard input where there are none.
  abbrev pub ReadsTexts : List (List ℕ) → ℕ → Account → Account → Reading S → Reading S → Type 0
  ReadsTexts [] status input input' old new =
      ReadsInput status old.texts.inputs new.texts.inputs input input' old.complaints new.complaints
      × (new.files ≡ old.files)
  ReadsTexts (path ∷ paths) status input input' old new =
      InTurn ReadsPath (path ∷ paths) status old new × (input' ≡ input)
