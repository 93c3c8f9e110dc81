-- What a client and the server have in common during a conversation.
use Rattle.std.specs.List.{Contains}
use Rattle.std.specs.Prelude.{◌≡◌, ◌≢◌, ◌↔◌, ◌⊎◌, ℕ, Bool, false, List, fold, Option, Some, None, is_some, option_map}
use Rattle.std.specs.Prelude.{true}
use Rattle.apollo_parser.specs.declared.Limits.{Limits}
use Rattle.line_index.specs.Positions.{units}
use Rattle.line_index.specs.declared.PositionEncoding.{PositionEncoding}
use Rattle.line_index.specs.declared.PositionEncoding.TheVariants.{Utf16}
use Rattle.editor_validation.specs.Fragments.{Fragments}
use Rattle.editor_text.specs.Client.{replaced}
use Rattle.embedded_documents.specs.declared.scanner.HostLanguage.{HostLanguage}
use Rattle.file_uris.specs.Uris.{normalized}
use Rattle.gqlls_server.specs.Files.{OpenFile}
use Rattle.gqlls_server.specs.Parameters.{Edit}
use Rattle.gqlls_server.specs.declared.server.Stage.{Stage}
use Rattle.gqlls_server.specs.declared.server.Stage.TheVariants.{New}

-- How far the conversation is, how columns are counted, whether the server may register for the events of files,
-- whether diagnostics may have related information, and the limits of each parse; each file that the client has open,
-- by its name, and the names of fragments in it; and the files that the server has read, by the URIs of their paths,
-- and the names of fragments in them.
pub record Dialogue : Type 0 where
  pub stage : Stage
  pub encoding : PositionEncoding
  pub may_register : Bool
  pub takes_related : Bool
  pub limits : Limits
  pub documents : List ℕ → Option OpenFile
  pub fragments : List ℕ → Option Fragments
  pub files : List ℕ → Option OpenFile
  pub file_fragments : List ℕ → Option Fragments

-- no message was read
abbrev pub initial_dialogue : Limits → Dialogue
initial_dialogue limits = record {
  stage = New;
  encoding = Utf16;
  may_register = false;
  takes_related = false;
  limits = limits;
  documents = λ name. None;
  fragments = λ name. None;
  files = λ name. None;
  file_fragments = λ name. None;
}

-- a text in a language, in the encoding and within the limits of the conversation
abbrev pub opened : Dialogue → List ℕ → Option HostLanguage → OpenFile
opened dialogue text host =
    record { content = record { encoding = dialogue.encoding; text = text }; host = host; limits = dialogue.limits }

-- one document is opened, changed or closed, and the others stay
pub record Updates {A : Type 0} (uri : List ℕ) (value : Option A) (old new : List ℕ → Option A) : Type 0 where
  pub this : new uri ≡ value
  pub others : (name : List ℕ) → name ≢ uri → new name ≡ old name

-- nothing else changes
pub record Sets (uri : List ℕ) (file : Option OpenFile) (names : Option Fragments) (old new : Dialogue) : Type 0 where
  pub documents : Updates uri file old.documents new.documents
  pub fragments : Updates uri names old.fragments new.fragments
  pub files : new.files ≡ old.files
  pub file_fragments : new.file_fragments ≡ old.file_fragments
  pub stage : new.stage ≡ old.stage
  pub encoding : new.encoding ≡ old.encoding
  pub may_register : new.may_register ≡ old.may_register
  pub takes_related : new.takes_related ≡ old.takes_related
  pub limits : new.limits ≡ old.limits

abbrev pub without_files : Dialogue → Dialogue
without_files dialogue = record dialogue { files = λ name. None; file_fragments = λ name. None }

-- one file that is not open is this from now on, with these names of fragments, and nothing else changes
pub record SetsFile (name : List ℕ) (value : Option (OpenFile × Fragments)) (old new : Dialogue) : Type 0 where
  pub files : Updates name (option_map (λ (v : OpenFile × Fragments). v.0) value) old.files new.files
  pub fragments : Updates name (option_map (λ (v : OpenFile × Fragments). v.1) value)
      old.file_fragments new.file_fragments
  pub others : without_files new ≡ without_files old

-- A file is the client's own where an open document's URI names it, however that is spelled: it counts as the client
-- has it.
abbrev pub IsOwn : {A : Type 0} → (List ℕ → Option A) → List ℕ → Type 0
IsOwn documents name = (uri : List ℕ) × (is_some (documents uri) ≡ true) × (normalized uri ≡ Some name)

-- these are the names of fragments in the open documents but one, and in the files that are no open document's own
abbrev pub AreOthers : List ℕ → (List ℕ → Option Fragments) → (List ℕ → Option Fragments) → List Fragments → Type 0
AreOthers uri fragments files others =
    (names : Fragments) → Contains others names ↔ (((name : List ℕ) × (name ≢ uri) × (fragments name ≡ Some names))
    ⊎ ((name : List ℕ) × (¬ IsOwn fragments name) × (files name ≡ Some names)))

-- a text is the one before with some changes, each made by the client to the text that the one before it left
pub record IsChanged (edits : List Edit) (old new : OpenFile) : Type 0 where
  pub encoding : new.content.encoding ≡ old.content.encoding
  pub host : new.host ≡ old.host
  pub limits : new.limits ≡ old.limits
  pub text : units old.content.encoding new.content.text
      ≡ fold (λ text edit. replaced old.content.encoding text edit.0 (units old.content.encoding edit.1))
      (units old.content.encoding old.content.text) edits
