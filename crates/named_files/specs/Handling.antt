-- What programs do with the files that paths name.
use Rattle.std.specs.Prelude.{◌≡◌, ◌≢◌, ◌⊎◌, ℕ, max, List, [], ◌∷◌, Result, Ok, Err}
use Rattle.std.specs.declared.io.Error.{Error}
use Rattle.byte_streams.specs.Devices.{Account}
use Rattle.byte_streams.specs.Runs.{Writes}
use Rattle.byte_streams.specs.declared.fault.Fault.TheVariants.{Read, Memory}
use Rattle.file_access.specs.Listing.{Listing}
use Rattle.command_lines.specs.Complaints.{Tells}
use Rattle.command_lines.specs.Streams.{Streams}
use Rattle.command_lines.specs.declared.complaints.FileFault.{FileFault}
use Rattle.command_lines.specs.declared.complaints.FileFault.TheVariants.{NotRead, NotReplaced, Device}
use Rattle.named_files.specs.Finding.{FoundPath, IsNamed, Lists}

-- The files, and what went through standard output and standard error.
pub record Desk (S : Type 0) : Type 0 where
  pub files : S
  pub output : Account
  pub complaints : Account

-- What a run finds and leaves: its standard streams, and the files.
pub record State (S : Type 0) : Type 0 where
  pub input : Account
  pub output : Account
  pub complaints : Account
  pub files : S

abbrev pub streams : {S : Type 0} → State S → Streams
streams state = record { input = state.input; output = state.output; complaints = state.complaints }

abbrev pub desk : {S : Type 0} → State S → Desk S
desk state = record { files = state.files; output = state.output; complaints = state.complaints }

-- ---- one file

-- `IsOutput text outcome output` is the output for a text, by its outcome
module _ {T : Type 0} (IsOutput : List ℕ → T → List ℕ → Type 0) where
  -- What is written after a read: the output for the text that it gave, and nothing where it gave none. The file was
  -- not read only where the read failed.
  abbrev pub FollowsRead : Result (List ℕ) Error → Result T FileFault → Account → Account → Type 0
  FollowsRead (Ok text) (Ok outcome) old new = Writes IsOutput (Ok outcome) text old new
  FollowsRead (Ok text) (Err (Device fault)) old new = (fault ≢ Read) × Writes IsOutput (Err fault) text old new
  FollowsRead (Ok text) (Err (NotRead error)) old new = ⊥
  FollowsRead (Ok text) (Err (NotReplaced error)) old new = ⊥
  FollowsRead (Err error) (Err (NotRead error')) old new = (error' ≡ error) × (new ≡ old)
  FollowsRead (Err error) ended old new = ⊥

  -- The file at a path is read once, and this is written of it. Nothing else is done with files.
  pub record ReadsAndWrites {S : Type 0} (reads : S → List ℕ → Result (List ℕ) Error → S → Type 0) (path : List ℕ)
      (ended : Result T FileFault)
      (old : S) (output : Account) (new : S) (output' : Account) : Type 0 where
    pub given : Result (List ℕ) Error
    pub read : reads old path given new
    pub follows : FollowsRead given ended output output'

-- ---- several

-- `handles item status old new` is what is done with an item
module _ {I D : Type 0} (handles : I → ℕ → D → D → Type 0) where
  -- That is done with each, one after the other. The status is the greatest of theirs.
  abbrev pub InTurn : List I → ℕ → D → D → Type 0
  InTurn [] status old new = (status ≡ 0) × (new ≡ old)
  InTurn (item ∷ items) status old new =
      (one : ℕ) × (rest : ℕ) × (next : D) × (status ≡ max one rest) × handles item one old next
      × InTurn items rest next new

-- the files that a path names, as a trait tells what listing a folder does
module _ {S : Type 0} (lists : S → List ℕ → Listing → S → Type 0) where
  -- They are found, and then handled.
  pub record FindsAndHandles (handles : FoundPath → ℕ → Desk S → Desk S → Type 0) (path : List ℕ) (status : ℕ)
      (old new : Desk S) : Type 0 where
    pub found : List FoundPath
    pub middle : S
    pub named : IsNamed lists path found old.files middle
    pub handled : InTurn handles found status (record old { files = middle }) new

  -- Memory is refused before they are all found: nothing is done with them, and the program says that.
  pub record GivesUp (program path : List ℕ) (status : ℕ) (old new : Desk S) : Type 0 where
    pub fails : status ≡ 2
    pub only_lists : Lists lists old.files new.files
    pub silent : new.output ≡ old.output
    pub tells : Tells program path Memory old.complaints new.complaints

  abbrev pub HandlesNamed : List ℕ → (FoundPath → ℕ → Desk S → Desk S → Type 0) → List ℕ → ℕ → Desk S → Desk S → Type 0
  HandlesNamed program handles path status old new =
      FindsAndHandles handles path status old new ⊎ GivesUp program path status old new
