-- What a run of the program does, by the request in its words.
use Rattle.std.specs.List.{Contains}
use Rattle.std.specs.Prelude.{◌≡◌, ◌⊎◌, ℕ, List, codes, Option, Some, None, Result}
use Rattle.std.specs.declared.io.Error.{Error}
use Rattle.apollo_parser.specs.declared.Limits.{Limits}
use Rattle.byte_streams.specs.declared.fault.Fault.{Fault}
use Rattle.byte_streams.specs.declared.fault.Fault.TheVariants.{Read, Utf8, Memory, Write}
use Rattle.file_access.specs.Listing.{Listing}
use Rattle.command_lines.specs.Gqlls.{request_of}
use Rattle.command_lines.specs.Streams.{IsSaid, OnlyExplains, OnlyPrints, OnlySays, Streams, no_memory}
use Rattle.command_lines.specs.declared.information.Information.{Information}
use Rattle.command_lines.specs.declared.information.Information.TheVariants.{Help, Version}
use Rattle.command_lines.specs.declared.information.Request.{Request}
use Rattle.command_lines.specs.declared.information.Request.TheVariants.{Print, Process}
use Rattle.gqlls_program.specs.FolderDialogues.{Fails, Serves}
use Rattle.gqlls_program.specs.declared.command.TheConstants.{HELP, PROGRAM, USAGE, VERSION}

abbrev pub information_text : Information → List ℕ
information_text Help = HELP.now
information_text Version = VERSION.now

-- what is said of a run that failed
abbrev pub complaint_of : Fault → List ℕ
complaint_of Read = codes "gqlls: cannot read\n"
complaint_of Utf8 = codes "gqlls: cannot read\n"
complaint_of Memory = codes "gqlls: out of memory\n"
complaint_of Write = codes "gqlls: cannot write\n"

-- the files, as a trait tells what listing a folder, reading a file and locating a folder does
module _
    {F : Type 0} (lists : F → List ℕ → Listing → F → Type 0)
    (reads locates : F → List ℕ → Result (List ℕ) Error → F → Type 0) (files : F) where
  -- a client is served, and nothing is said beside that
  abbrev pub ServesClient : Limits → ℕ → Streams → Streams → Type 0
  ServesClient limits status old new =
      Serves lists reads locates limits files status old.input new.input old.output new.output
      × (new.complaints ≡ old.complaints)

  -- that fails, and why is said
  pub record FailsClient (limits : Limits) (status : ℕ) (old new : Streams) : Type 0 where
    pub fault : Fault
    pub fails : Fails lists reads locates limits files old.input new.input old.output new.output fault
    pub says : IsSaid (complaint_of fault) old.complaints new.complaints
    pub counted : status ≡ 2

  -- What a run does for the request in its words. Where there is none, a word is wrong.
  abbrev pub Does : List (List ℕ) → Option (Request Limits) → ℕ → Streams → Streams → Type 0
  Does words (Some (Print page)) status old new = OnlyPrints PROGRAM.now (information_text page) status old new
  Does words (Some (Process limits)) status old new =
      ServesClient limits status old new ⊎ FailsClient limits status old new
  Does words None status old new = OnlyExplains PROGRAM.now USAGE.now (Contains words) status old new

  -- What a run does: that, or it says that memory was refused before the last of its words was read, and nothing else.
  abbrev pub Runs : List (List ℕ) → ℕ → Streams → Streams → Type 0
  Runs words status old new =
      Does words (request_of words) status old new ⊎ OnlySays (no_memory PROGRAM.now) status old new
