-- What a server keeps of a conversation.
use Rattle.std.specs.BTreeMap.{BTreeMap, get_by_text, keys}
use Rattle.std.specs.BTreeSet.{BTreeSet, contains_text}
use Rattle.std.specs.List.{Contains, list_any}
use Rattle.std.specs.Prelude.{◌≡◌, ◌↔◌, ◌⊎◌, ◌||◌, ◌&&◌, ℕ, Bool, false, List, Option, Some}
use Rattle.std.specs.Prelude.{bytes_eq, filter, is_some, map, not, option_map, string_bytes, unwrap_or}
use Rattle.std.specs.declared.string.String.{String}
use denote.Ref.{Bor}
use Rattle.json.specs.Json.{Json}
use Rattle.apollo_tree.specs.Order.{Place}
use Rattle.rpc_messages.specs.declared.reply.Reply.{Reply}
use Rattle.editor_validation.specs.Fragments.{Fragments}
use Rattle.file_uris.specs.Uris.{normalized}
use Rattle.gqlls_server.specs.Conversation.{Steps}
use Rattle.gqlls_server.specs.Dialogue.{Dialogue}
use Rattle.gqlls_server.specs.Files.{OpenFile}
use Rattle.gqlls_server.specs.Renaming.{KnownFile, places_in}
use Rattle.gqlls_server.specs.declared.documents.Document.{Document}
use Rattle.gqlls_server.specs.declared.documents.Known.{Known}
use Rattle.gqlls_server.specs.declared.references.Occurrence.{Occurrence}
use Rattle.gqlls_server.specs.declared.server.Server.{Server}

-- the file of a document
abbrev pub file_of : Document → OpenFile
file_of document = document.file

-- the names of its fragments
abbrev pub names_of : Document → Fragments
names_of document = document.fragments

-- the files, by their names
abbrev pub files : {A : Type 0} → BTreeMap (String A) Document → List ℕ → Option OpenFile
files documents name = option_map file_of (get_by_text documents name)

-- the names of their fragments
abbrev pub names_in : {A : Type 0} → BTreeMap (String A) Document → List ℕ → Option Fragments
names_in documents name = option_map names_of (get_by_text documents name)

-- whether the file with this name is the one that a URI names
abbrev pub is_of : List ℕ → List ℕ → Bool
is_of name uri = unwrap_or (option_map (λ own. bytes_eq own name) (normalized uri)) false

-- whether this document's URI names it, or an open one's does
abbrev pub is_own : {A : Type 0} → List ℕ → BTreeMap (String A) Document → List ℕ → Bool
is_own uri documents name = is_of name uri || list_any (is_of name) (map string_bytes (keys documents))

-- the text behind a reference
abbrev pub text_of : Bor (List ℕ) → List ℕ
text_of text = text.now

-- a document that is known, as answers see it
abbrev pub known_of : Known → KnownFile
known_of known = (known.uri.now, known.document.now)

-- where a document has the name of an occurrence
abbrev pub places_of : Bool → Occurrence → KnownFile → List Place
places_of with_definition occurrence =
    places_in with_definition (known_of occurrence.asked) occurrence.offset (option_map text_of occurrence.definer)

-- whether a name is another
abbrev pub is_other : List ℕ → List ℕ → Bool
is_other uri name = not (bytes_eq name uri)

-- whether a file with this name is no open document's own, by the names of those that are
abbrev pub is_stored : {A B : Type 0} → BTreeSet (String A) → BTreeMap (String B) Document → List ℕ → Bool
is_stored own opened name = not (contains_text own name) && not (is_some (get_by_text opened name))

-- an entry of a map of documents
abbrev pub entry_of : {A : Type 0} → String A × Document → KnownFile
entry_of entry = (string_bytes entry.0, entry.1)

-- these are the names of fragments in all open documents, and in the files that are not such
abbrev pub AreBeside : (List ℕ → Option Fragments) → (List ℕ → Option Fragments) → (List ℕ → Bool)
    → List Fragments → Type 0
AreBeside fragments files own all =
    (names : Fragments) → Contains all names ↔ (((name : List ℕ) × (fragments name ≡ Some names))
    ⊎ ((name : List ℕ) × (own name ≡ false) × (files name ≡ Some names)))

-- the entries of the documents whose names pass a test
abbrev pub entries_that : {A : Type 0} → (List ℕ → Bool) → BTreeMap (String A) Document → List (String A × Document)
entries_that {A = A} passes documents =
    filter (λ (entry : String A × Document). passes (string_bytes entry.0)) documents.entries

-- the files but some
abbrev pub entries_beside : {A B : Type 0} → BTreeSet (String B) → BTreeMap (String A) Document
    → List (String A × Document)
entries_beside {A = A} own documents =
    filter (λ (entry : String A × Document). not (contains_text own (string_bytes entry.0))) documents.entries

abbrev pub dialogue_of : Server → Dialogue
dialogue_of server = record {
  stage = server.stage;
  encoding = server.encoding;
  may_register = server.may_register;
  takes_related = server.takes_related;
  limits = server.limits;
  documents = files server.documents;
  fragments = names_in server.documents;
  files = files server.files;
  file_fragments = names_in server.files;
}

-- the message takes the old server's dialogue to the new one's
abbrev pub StepsOf : Server → Option Json → List ℕ → Json → Reply → Server → Type 0
StepsOf old id method params reply new = Steps (dialogue_of old) id method params reply (dialogue_of new)
