-- The answer to `textDocument/rename` (Language Server Protocol 3.17, "Rename Request"): where the known documents have
-- a name, and the edits there.
use Rattle.std.specs.List.{All, AllPairs, Contains, find}
use Rattle.std.specs.Prelude.{◌≡◌, ◌≢◌, ◌↔◌, ◌⊎◌, ℕ, ◌||◌, not, Bool, true, if◌then◌else◌, List, [], ◌∷◌, Option, Some}
use Rattle.std.specs.Prelude.{None, MatchOption, ⊤, bytes_eq, codes, MatchBool, is_some, map, option_map}
use lib.IntN.{pos, neg_ℤ}
use Rattle.json.specs.Json.{Items, Json, Members, array, item, member, no_items, no_members, object}
use Rattle.apollo_tree.specs.Order.{Place, range_at}
use Rattle.line_index.specs.declared.Position.{Position}
use Rattle.rpc_messages.specs.Messages.{IsResult}
use Rattle.editor_answers.specs.Names.{definition_elsewhere, definition_in, holds, identifier_at, meaning_at}
use Rattle.editor_answers.specs.Names.{references_elsewhere, references_in}
use Rattle.editor_answers.specs.Results.{change_value}
use Rattle.editor_answers.specs.declared.names.NameKind.{NameKind}
use Rattle.editor_answers.specs.declared.names.NameKind.TheVariants.{Operation, Fragment, Variable, «Type» as of_type}
use Rattle.editor_answers.specs.declared.names.NameKind.TheVariants.{Directive}
use Rattle.gqlls_server.specs.Dialogue.{IsOwn}
use Rattle.gqlls_server.specs.Files.{OpenFile}
use Rattle.gqlls_server.specs.Layout.{IsRefusalOf}
use Rattle.gqlls_server.specs.Parameters.{IsOffset, new_name_in, position_at}
use Rattle.gqlls_server.specs.Parsing.{IsParsed, ParsedFile}

-- ---- the known documents

-- a document that is known: its URI, its file and its parse
abbrev pub KnownFile : Type 0
KnownFile = List ℕ × ParsedFile

-- its URI and its file
abbrev pub named : KnownFile → List ℕ × OpenFile
named one = (one.0, one.1.file)

-- the root of the tree that answers are about
abbrev pub root_of : KnownFile → Place
root_of known = record { whole = known.1.shown.tree; index = 0 }

-- each has its parse
abbrev pub AreParsed : List KnownFile → Type 0
AreParsed = All (λ (one : KnownFile). IsParsed one.1)

-- a document with this URI is known: it is open, or it is a file that the server has read, and that is no open
-- document's own
abbrev pub IsKnown : (List ℕ → Option OpenFile) → (List ℕ → Option OpenFile) → List ℕ → OpenFile → Type 0
IsKnown documents files uri file =
    (documents uri ≡ Some file) ⊎ ((documents uri ≡ None) × (¬ IsOwn documents uri) × (files uri ≡ Some file))

-- these are all documents that are known, none of them twice, each with its parse
pub record AreKnown (documents files : List ℕ → Option OpenFile) (known : List KnownFile) : Type 0 where
  pub parsed : AreParsed known
  pub distinct : AllPairs (λ one other. one.0 ≢ other.0) known
  pub all : (uri : List ℕ) (file : OpenFile) → Contains (map named known) (uri, file) ↔ IsKnown documents files uri file

-- It is about a position of an open document, which means a byte offset, beside all that are known.
pub record IsAbout
    (documents files : List ℕ → Option OpenFile) (uri : List ℕ) (file : OpenFile) (position : Position)
    (IsSuch : KnownFile → ℕ → List KnownFile → Type 0) : Type 0 where
  pub asked : ParsedFile
  pub is : asked.file ≡ file
  pub others : List KnownFile
  pub known : AreKnown documents files ((uri, asked) ∷ others)
  pub offset : ℕ
  pub meant : IsOffset file.content.encoding file.content.text position offset
  pub such : IsSuch (uri, asked) offset ((uri, asked) ∷ others)

-- ---- where a name is

-- whether a document defines the name at an offset of another
abbrev pub defines : KnownFile → ℕ → KnownFile → Bool
defines asked offset other = is_some (definition_elsewhere (root_of asked) offset (root_of other))

-- the document whose definition of the name at an offset counts: the document itself where it has one, or else the
-- first that has one
abbrev pub definer_of : KnownFile → ℕ → List KnownFile → Option (List ℕ)
definer_of asked offset known =
    if is_some (definition_in (root_of asked) offset) then Some asked.0
    else option_map (λ (one : KnownFile). one.0) (find (defines asked offset) known)

-- Where a document has the name at an offset of the one that is asked about. One that has a definition of its own,
-- which doesn't count, means something else by it.
abbrev pub places_in : Bool → KnownFile → ℕ → Option (List ℕ) → KnownFile → List Place
places_in with_definition asked offset definer one =
    if bytes_eq one.0 asked.0 then references_in (root_of asked) offset with_definition
    else (if holds (bytes_eq one.0) definer || not (defines asked offset one)
    then references_elsewhere (root_of asked) offset (root_of one) with_definition else [])

-- ---- the edits

abbrev pub items_of : List Json → Items
items_of [] = no_items
items_of (value ∷ values) = item value (items_of values)

-- `TextEdit`: a range of a document gets a name
abbrev pub edit_of : OpenFile → List ℕ → ℕ × ℕ → Json
edit_of file name range =
    change_value file.content.encoding file.content.text name (record { start = range.0; end = range.1 })

-- the member of a document with the edits of some ranges, if there are any, before other members
abbrev pub with_edits : KnownFile → List ℕ → List (ℕ × ℕ) → Members → Members
with_edits one name [] others = others
with_edits one name (range ∷ ranges) others =
    member one.0 (array (items_of (map (edit_of one.1.file name) (range ∷ ranges)))) others

-- each document's edits of its places
abbrev pub edits_of : (KnownFile → List Place) → List ℕ → List KnownFile → Members
edits_of places name [] = no_members
edits_of places name (one ∷ known) = with_edits one name (map range_at (places one)) (edits_of places name known)

-- `WorkspaceEdit`
abbrev pub workspace_edit : (KnownFile → List Place) → List ℕ → List KnownFile → Json
workspace_edit places name known = object (member (codes "changes") (object (edits_of places name known)) no_members)

-- ---- the answer

-- a fragment may not be called `on` (GraphQL, October 2021, section 2.8)
abbrev pub may_be_called : NameKind → List ℕ → Bool
may_be_called Operation name = true
may_be_called Fragment name = not (bytes_eq name (codes "on"))
may_be_called Variable name = true
may_be_called of_type name = true
may_be_called Directive name = true

-- the body refuses the request with this id: as `InvalidParams`, or as `RequestFailed`
abbrev pub IsInvalid : Json → List ℕ → Type 0
IsInvalid id = IsRefusalOf id (neg_ℤ (pos 32602))

abbrev pub IsFailed : Json → List ℕ → Type 0
IsFailed id = IsRefusalOf id (neg_ℤ (pos 32803))

-- The name of such a thing gets another name wherever the known documents have it. That fails if none of them defines
-- it.
abbrev pub IsRenamed : Json → NameKind → KnownFile → ℕ → List ℕ → List KnownFile → List ℕ → Type 0
IsRenamed id kind asked offset name known body =
    MatchOption (definer_of asked offset known) (IsFailed id body)
    (λ definer. MatchBool (may_be_called kind name)
    (IsResult id (workspace_edit (places_in true asked offset (Some definer)) name known) body) (IsInvalid id body))

-- The same for the name at an offset, where it is an operation's, a fragment's, a variable's, a type's or a
-- directive's. Without a name there it fails.
abbrev pub IsRenamedAt : Json → KnownFile → ℕ → List ℕ → List KnownFile → List ℕ → Type 0
IsRenamedAt id asked offset name known body =
    MatchOption (identifier_at (root_of asked) offset) (IsFailed id body)
    (λ leaf. MatchOption (meaning_at leaf) ⊤ (λ meaning. IsRenamed id meaning.kind asked offset name known body))

-- The body answers the request to rename what is at a position, which has to be there, as the new name has to be a name
-- of GraphQL.
abbrev pub IsRenaming : (List ℕ → Option OpenFile) → (List ℕ → Option OpenFile) → Json → Json → List ℕ
    → OpenFile → List ℕ → Type 0
IsRenaming documents files id params uri file body =
    MatchOption (position_at (codes "position") params) (IsInvalid id body)
    (λ position. MatchOption (new_name_in params) (IsInvalid id body)
    (λ name. IsAbout documents files uri file position
    (λ asked offset known. IsRenamedAt id asked offset name known body)))
