-- What the parameters of a message say, where they are those of the Language Server Protocol 3.17.
use Rattle.std.specs.Char.{is_digit}
use Rattle.std.specs.Int.{w64}
use Rattle.std.specs.List.{Contains, list_all}
use Rattle.std.specs.Option.{option_zip}
use Rattle.std.specs.Prelude.{◌≡◌, ℕ, ℤ, ◌^◌, Bool, ◌&&◌, false, nat_lt, if◌then◌else◌, List, [], ◌∷◌, codes}
use Rattle.std.specs.Prelude.{filter_map, length, take, Option, Some, None, MatchOption, ok_or, option_and_then}
use Rattle.std.specs.Prelude.{option_map, unwrap_or}
use Rattle.std.specs.Str.{IsCharBoundary}
use Rattle.std.specs.Str.Parse.{ParsesSigned, digits_value, without_leading_plus}
use Rattle.json.specs.Find.{as_array, as_bool, as_number, as_str, get, is_null}
use Rattle.json.specs.Json.{Json, string, Items, no_items, item}
use Rattle.lexical_grammar.specs.Characters.{is_name_continue, is_name_start}
use Rattle.line_index.specs.Positions.{offset_of, units}
use Rattle.line_index.specs.declared.Position.{Position}
use Rattle.line_index.specs.declared.PositionEncoding.{PositionEncoding}
use Rattle.editor_text.specs.declared.Change.{Change}
use Rattle.editor_text.specs.declared.PositionRange.{PositionRange}
use Rattle.embedded_documents.specs.declared.scanner.HostLanguage.{HostLanguage}
use Rattle.gqlls_server.specs.Files.{host_named}

-- ---- documents

-- the name that a value has of a file or a folder
abbrev pub name_in : Json → Option (List ℕ)
name_in value = option_and_then as_str (get (codes "uri") value)

-- the name of the document that the message is about
abbrev pub uri_in : Json → Option (List ℕ)
uri_in params = option_and_then name_in (get (codes "textDocument") params)

abbrev pub number_in : Json → Option (List ℕ)
number_in params = option_and_then (λ document. option_and_then as_number (get (codes "version") document))
    (get (codes "textDocument") params)

-- the version of that document: a number that fits 64 bits, or none
abbrev pub IsVersionIn : Json → Option ℤ → Type 0
IsVersionIn params version =
    MatchOption (number_in params) (version ≡ None) (λ digits. ParsesSigned w64 10 digits (ok_or version digits))

-- the text of the document that is opened
abbrev pub text_in : Json → Option (List ℕ)
text_in params = option_and_then (λ document. option_and_then as_str (get (codes "text") document))
    (get (codes "textDocument") params)

-- the language of that document, if it isn't GraphQL
abbrev pub host_in : Json → Option HostLanguage
host_in params =
    option_and_then (λ document. option_and_then host_named
    (option_and_then as_str (get (codes "languageId") document))) (get (codes "textDocument") params)

-- ---- changes

-- what is made of two values, where both are there
abbrev pub both : {A B C : Type 0} → (A → B → C) → Option A → Option B → Option C
both make None b = None
both make (Some a) b = option_map (make a) b

-- what is made of each value, where all are there
abbrev pub each : {A B : Type 0} → (A → Option B) → List A → Option (List B)
each make [] = Some []
each make (x ∷ xs) = both (λ y ys. y ∷ ys) (make x) (each make xs)

-- the number that digits spell, where it fits 64 bits; those of the protocol fit 31
abbrev pub numeral : List ℕ → Option ℕ
numeral [] = None
numeral (c ∷ digits) =
    if list_all (λ c. is_digit c 10) (c ∷ digits)
    && nat_lt (digits_value 10 (c ∷ digits)) (2 ^ 64) then Some (digits_value 10 (c ∷ digits)) else None

-- `uinteger`: the number that a value has by a name. No number of JSON begins with a plus.
abbrev pub number_at : List ℕ → Json → Option ℕ
number_at name value = option_and_then (λ digits. numeral (without_leading_plus digits))
    (option_and_then as_number (get name value))

-- `Position`
abbrev pub position_in : Json → Option Position
position_in value =
    both {C = Position} (λ line column. record { line = line; column = column }) (number_at (codes "line") value)
    (number_at (codes "character") value)

abbrev pub position_at : List ℕ → Json → Option Position
position_at name value = option_and_then position_in (get name value)

-- `Range`
abbrev pub range_in : Json → Option PositionRange
range_in value =
    both {C = PositionRange} (λ start end. record { start = start; end = end }) (position_at (codes "start") value)
    (position_at (codes "end") value)

-- a text, and the range that it replaces, if it isn't the whole document
abbrev pub Edit : Type 0
Edit = Option PositionRange × List ℕ

-- the range that a value may have; null counts as none
abbrev pub extent_in : Option Json → Option (Option PositionRange)
extent_in None = Some None
extent_in (Some value) = if is_null value then Some None else option_map (λ range. Some range) (range_in value)

-- `TextDocumentContentChangeEvent`
abbrev pub edit_in : Json → Option Edit
edit_in value = option_zip (extent_in (get (codes "range") value)) (option_and_then as_str (get (codes "text") value))

abbrev pub list_of : Items → List Json
list_of no_items = []
list_of (item value items) = value ∷ list_of items

-- the items of a list that a value has by a name
abbrev pub items_at : List ℕ → Json → Option (List Json)
items_at name value = option_map list_of (option_and_then as_array (get name value))

-- the changes of a document, each of which has to be one of the protocol
abbrev pub edits_in : Json → Option (List Edit)
edits_in params = option_and_then (each edit_in) (items_at (codes "contentChanges") params)

-- what a change tells
abbrev pub client_edit : Change → Edit
client_edit change = (change.range, change.text.now)

-- the byte offset that a client means by a position in a text
pub record IsOffset (encoding : PositionEncoding) (text : List ℕ) (position : Position) (offset : ℕ) : Type 0 where
  pub boundary : IsCharBoundary text offset
  pub meant : length (units encoding (take offset text)) ≡ offset_of encoding (units encoding text) position

-- ---- names

-- whether a text is a Name (GraphQL, October 2021, section 2.1.9)
abbrev pub is_name : List ℕ → Bool
is_name [] = false
is_name (first ∷ rest) = is_name_start first && list_all is_name_continue rest

-- the name of GraphQL that something gets
abbrev pub new_name_in : Json → Option (List ℕ)
new_name_in params =
    option_and_then (λ name. if is_name name then Some name else None)
    (option_and_then as_str (get (codes "newName") params))

-- ---- folders and files

-- the names that the values of a list have
abbrev pub names_at : List ℕ → Json → List (List ℕ)
names_at list params = filter_map name_in (unwrap_or (items_at list params) [])

-- `rootUri`, which is deprecated for `workspaceFolders`
abbrev pub root_in : Json → Option (List ℕ)
root_in params = option_and_then as_str (get (codes "rootUri") params)

abbrev pub or_root : Option (List ℕ) → List (List ℕ) → List (List ℕ)
or_root root (folder ∷ folders) = folder ∷ folders
or_root None [] = []
or_root (Some root) [] = root ∷ []

-- `InitializeParams`: the folders that the client opens
abbrev pub opened_folders : Json → List (List ℕ)
opened_folders params = or_root (root_in params) (names_at (codes "workspaceFolders") params)

-- `DidChangeWatchedFilesParams`: the files that were made, have changed or are gone
abbrev pub changed_files : Json → List (List ℕ)
changed_files params = names_at (codes "changes") params

-- ---- capabilities

-- `DidChangeWatchedFilesClientCapabilities`
abbrev pub watching_in : Json → Option Json
watching_in capabilities = option_and_then (get (codes "didChangeWatchedFiles")) (get (codes "workspace") capabilities)

abbrev pub registration_in : Json → Option Bool
registration_in params =
    option_and_then as_bool
    (option_and_then (get (codes "dynamicRegistration"))
    (option_and_then watching_in (get (codes "capabilities") params)))

-- whether the server may register for the events of files
abbrev pub may_register_in : Json → Bool
may_register_in params = unwrap_or (registration_in params) false

-- `PublishDiagnosticsClientCapabilities`
abbrev pub publishing_in : Json → Option Json
publishing_in capabilities =
    option_and_then (get (codes "publishDiagnostics")) (get (codes "textDocument") capabilities)

abbrev pub related_in : Json → Option Bool
related_in params =
    option_and_then as_bool
    (option_and_then (get (codes "relatedInformation"))
    (option_and_then publishing_in (get (codes "capabilities") params)))

-- whether a diagnostic may have related information
abbrev pub takes_related_in : Json → Bool
takes_related_in params = unwrap_or (related_in params) false

-- `RenameClientCapabilities`
abbrev pub renaming_in : Json → Option Json
renaming_in capabilities = option_and_then (get (codes "rename")) (get (codes "textDocument") capabilities)

abbrev pub prepared_in : Json → Option Bool
prepared_in params =
    option_and_then as_bool
    (option_and_then (get (codes "prepareSupport")) (option_and_then renaming_in (get (codes "capabilities") params)))

-- whether the client asks, before it changes a name, whether it may be changed
abbrev pub asks_before_renaming_in : Json → Bool
asks_before_renaming_in params = unwrap_or (prepared_in params) false

-- how a client says that it can count columns
abbrev pub encodings_in : Json → Option (List Json)
encodings_in capabilities = option_and_then (items_at (codes "positionEncodings")) (get (codes "general") capabilities)

-- these are all the ways
abbrev pub OffersAll : Json → List Json → Type 0
OffersAll params names = option_and_then encodings_in (get (codes "capabilities") params) ≡ Some names

-- this is one of the ways
abbrev pub Offers : Json → List ℕ → Type 0
Offers params name = (names : List Json) × OffersAll params names × Contains names (string name)
