-- What the server says of itself in its answer to `initialize` (Language Server Protocol 3.17, "Initialize Request").
use Rattle.std.specs.Prelude.{ℕ, Bool, true, false, List, [], ◌∷◌, codes, decimal}
use Rattle.json.specs.Json.{Items, Json, Members, array, boolean, item, member, no_items, no_members, number, object}
use Rattle.json.specs.Json.{string}
use Rattle.line_index.specs.declared.PositionEncoding.{PositionEncoding}
use Rattle.line_index.specs.declared.PositionEncoding.TheVariants.{Utf8, Utf16}
use Rattle.rpc_messages.specs.Messages.{IsResult}

-- `PositionEncodingKind`
abbrev pub encoding_name : PositionEncoding → List ℕ
encoding_name Utf8 = codes "utf-8"
encoding_name Utf16 = codes "utf-16"

-- ---- JSON of some forms

-- a list of texts
abbrev pub items_of_texts : List (List ℕ) → Items
items_of_texts [] = no_items
items_of_texts (text ∷ texts) = item (string text) (items_of_texts texts)

abbrev pub texts : List (List ℕ) → Json
texts list = array (items_of_texts list)

-- a member that is `true`
abbrev pub provides : List ℕ → Members → Members
provides name others = member name (boolean true) others

-- ---- the capabilities

-- `RenameOptions`, for a client that asks first whether a name may be changed
abbrev pub renaming : Bool → Json
renaming true = object (provides (codes "prepareProvider") no_members)
renaming false = boolean true

-- `TextDocumentSyncOptions`: the client says which documents are open, and which parts of them change (`Incremental`)
abbrev pub synchronization : Json
synchronization =
    object (provides (codes "openClose")
    (member (codes "change") (number (decimal 2)) (provides (codes "save") no_members)))

-- an object with the characters after which the client asks by itself
abbrev pub triggered_by : List (List ℕ) → Json
triggered_by characters = object (member (codes "triggerCharacters") (texts characters) no_members)

-- `CompletionOptions`
abbrev pub completion : Json
completion = triggered_by (codes "$" ∷ codes "@" ∷ codes "." ∷ codes ":" ∷ codes "(" ∷ codes "{" ∷ [])

-- `SignatureHelpOptions`
abbrev pub signature_help : Json
signature_help = triggered_by (codes "(" ∷ codes "," ∷ [])

-- the types of semantic tokens
abbrev pub token_types : List (List ℕ)
token_types =
    codes "comment" ∷ codes "keyword" ∷ codes "string" ∷ codes "number" ∷ codes "operator" ∷ codes "variable"
    ∷ codes "type" ∷ codes "property"
    ∷ codes "parameter" ∷ codes "enumMember" ∷ codes "function" ∷ codes "decorator" ∷ []

-- `SemanticTokensLegend`
abbrev pub legend : Json
legend = object (member (codes "tokenModifiers") (texts [])
    (member (codes "tokenTypes") (texts token_types) no_members))

-- `SemanticTokensOptions`
abbrev pub semantic_tokens : Json
semantic_tokens = object
    (provides (codes "full") (provides (codes "range") (member (codes "legend") legend no_members)))

-- what a client is served that has no options
abbrev pub without_options : Members → Members
without_options others =
    provides (codes "documentSymbolProvider")
    (provides (codes "foldingRangeProvider") (provides (codes "selectionRangeProvider")
    (provides (codes "documentFormattingProvider")
    (provides (codes "documentRangeFormattingProvider") (provides (codes "definitionProvider")
    (provides (codes "referencesProvider")
    (provides (codes "documentHighlightProvider") (provides (codes "hoverProvider")
    (provides (codes "workspaceSymbolProvider") others)))))))))

-- `ServerCapabilities`, by how columns are counted, and whether the client asks before it changes a name
abbrev pub capabilities : PositionEncoding → Bool → Json
capabilities encoding asks_first =
    object (member (codes "positionEncoding") (string (encoding_name encoding))
    (member (codes "renameProvider") (renaming asks_first)
    (without_options (member (codes "textDocumentSync") synchronization (member (codes "completionProvider") completion
    (member (codes "signatureHelpProvider") signature_help
    (member (codes "semanticTokensProvider") semantic_tokens no_members)))))))

-- the server's name and its version
abbrev pub server_info : List ℕ → Json
server_info version = object
    (member (codes "name") (string (codes "gqlls")) (member (codes "version") (string version) no_members))

-- `InitializeResult`
abbrev pub announcement : PositionEncoding → Bool → List ℕ → Json
announcement encoding asks_first version =
    object (member (codes "capabilities") (capabilities encoding asks_first)
    (member (codes "serverInfo") (server_info version) no_members))

-- the body answers the request with this id by such a result, whatever the version is
abbrev pub IsAnnounced : Json → PositionEncoding → Bool → List ℕ → Type 0
IsAnnounced id encoding asks_first body =
    (version : List ℕ) × IsResult id (announcement encoding asks_first version) body
