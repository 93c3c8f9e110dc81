-- A conversation in which files are read.
use Rattle.std.specs.Prelude.{◌≡◌, ℕ, List, Option, Some, None, Result, Ok}
use Rattle.std.specs.declared.io.Error.{Error}
use Rattle.json.specs.Json.{Json}
use Rattle.apollo_parser.specs.declared.Limits.{Limits}
use Rattle.byte_streams.specs.Devices.{Account}
use Rattle.byte_streams.specs.declared.fault.Fault.{Fault}
use Rattle.file_access.specs.Listing.{Listing}
use Rattle.rpc_messages.specs.Steps.{Takes}
use Rattle.rpc_messages.specs.declared.reply.Reply.{Reply}
use Rattle.rpc_serving.specs.Serving.{EndsServing, IsServed}
use Rattle.file_uris.specs.Uris.{uri_of}
use Rattle.gqlls_server.specs.Conversation.{HandlesRequest, HandlesNotification}
use Rattle.gqlls_server.specs.Diagnostics.{KeepsFile}
use Rattle.gqlls_server.specs.Dialogue.{Dialogue, SetsFile, initial_dialogue}

-- a dialogue, and the files as they are by then
pub record FolderDialogue (F : Type 0) : Type 0 where
  pub dialogue : Dialogue
  pub files : F

-- no message was read
abbrev pub opening : {F : Type 0} → Limits → F → FolderDialogue F
opening limits files = record { dialogue = initial_dialogue limits; files = files }

-- the files, as a trait tells what listing a folder, reading a file and locating a folder does
module _
    {F : Type 0} (lists : F → List ℕ → Listing → F → Type 0)
    (reads locates : F → List ℕ → Result (List ℕ) Error → F → Type 0) where
  -- Folders are listed and located and files are read, one after the other. What is known of a file is of the text that
  -- it had when it was read, under a URI of its path.
  pub data Reads : FolderDialogue F → FolderDialogue F → Type 0 where
    nothing : {state : FolderDialogue F} → Reads state state
    listed : {old middle new : FolderDialogue F} {path : List ℕ} {listing : Listing}
        → Reads old middle → lists middle.files path listing new.files → new.dialogue ≡ middle.dialogue → Reads old new
    located : {old middle new : FolderDialogue F} {path : List ℕ} {given : Result (List ℕ) Error}
        → Reads old middle → locates middle.files path given new.files → new.dialogue ≡ middle.dialogue → Reads old new
    passed_over : {old middle new : FolderDialogue F} {path : List ℕ} {given : Result (List ℕ) Error}
        → Reads old middle → reads middle.files path given new.files → new.dialogue ≡ middle.dialogue → Reads old new
    kept : {old middle new : FolderDialogue F} {path text : List ℕ} {errors : ℕ}
        → Reads old middle → reads middle.files path (Ok text) new.files
        → KeepsFile (uri_of path) text errors middle.dialogue new.dialogue → Reads old new
    dropped : {old middle new : FolderDialogue F} {uri : List ℕ}
        → Reads old middle → new.files ≡ middle.files → SetsFile uri None middle.dialogue new.dialogue → Reads old new

  -- a notification is handled after files may have been read
  pub record ReadsAndHandles (method : List ℕ) (params : Json) (reply : Reply)
      (old new : FolderDialogue F) : Type 0 where
    pub ready : FolderDialogue F
    pub read : Reads old ready
    pub handled : HandlesNotification method params reply ready.dialogue new.dialogue
    pub files : new.files ≡ ready.files

  -- the outcome of a request, which has an id, or of a notification
  abbrev pub Steps : FolderDialogue F → Option Json → List ℕ → Json → Reply → FolderDialogue F → Type 0
  Steps old (Some id) method params reply new =
      HandlesRequest id method params reply old.dialogue new.dialogue × (new.files ≡ old.files)
  Steps old None method params reply new = ReadsAndHandles method params reply old new

  -- what was written is what a conversation about the bytes that were read says, from its beginning and within these
  -- limits
  pub record Serves (limits : Limits) (files : F) (status : ℕ)
      (read_old read_new write_old write_new : Account) : Type 0 where
    pub last : FolderDialogue F
    pub served : IsServed (Takes Steps) (opening limits files) last status read_old read_new write_old write_new

  -- the run fails, and what was written is what such a conversation says, as far as it came
  pub record Fails (limits : Limits) (files : F) (read_old read_new write_old write_new : Account)
      (fault : Fault) : Type 0 where
    pub last : FolderDialogue F
    pub ends : EndsServing (Takes Steps) (opening limits files) last read_old read_new write_old write_new fault
