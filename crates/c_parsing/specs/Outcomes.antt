-- What each call gives: for the status OK what it wrote, and for each other status why, and that it wrote nothing.
-- `known` has all statuses that a call may end with; that memory was refused, `NO_MEMORY`, has no further reason.
use Rattle.std.specs.List.{Contains}
use Rattle.std.specs.Prelude.{◌≡◌, ◌≢◌, ◌<◌, ◌≤◌, ◌^◌, ◌⊎◌, ℕ, List, [], ◌∷◌, length}
use Rattle.std.specs.Str.{IsUtf8}
use Rattle.document_grammar.specs.declared.kind.SyntaxKind.TheVariants as kind
use Rattle.apollo_tree.specs.declared.compact.CompactElement.{CompactElement}
use Rattle.apollo_parser.specs.Answers.{limited}
use Rattle.apollo_parser.specs.Compact.{compact_elements}
use Rattle.apollo_parser.specs.Derivation.{selections, type}
use Rattle.apollo_parser.specs.Filled.{filled}
use Rattle.apollo_parser.specs.Forests.{Forest, none, node, text}
use Rattle.apollo_parser.specs.Order.{order}
use Rattle.apollo_parser.specs.Parsed.{Parsed}
use Rattle.apollo_parser.specs.Parts.{OneType, first_kind}
use Rattle.apollo_parser.specs.Promise.{Promise, PartPromise}
use Rattle.apollo_parser.specs.Reads.{items_of}
use Rattle.apollo_parser.specs.StringValues.{IsStringValue}
use Rattle.apollo_parser.specs.Tokens.{IsString}
use Rattle.formatter.specs.Formatted.{IsFormatted, IsNoDocument, MayExceed}
use Rattle.c_parsing.specs.Rows.{error_rows, messages}
use Rattle.c_parsing.specs.declared.rows.ByteCount.{ByteCount}
use Rattle.c_parsing.specs.declared.rows.Counts.{Counts}
use Rattle.c_parsing.specs.declared.rows.ErrorRow.{ErrorRow}

-- ---- statuses

abbrev pub OK : ℕ
OK = 0

abbrev pub NOT_UTF8 : ℕ
NOT_UTF8 = 1

abbrev pub TOO_LONG : ℕ
TOO_LONG = 2

abbrev pub NO_MEMORY : ℕ
NO_MEMORY = 3

abbrev pub NOT_A_STRING : ℕ
NOT_A_STRING = 4

abbrev pub NOT_A_DOCUMENT : ℕ
NOT_A_DOCUMENT = 5

-- 6 to 8 are statuses of `c_validation`

abbrev pub NO_ROOM : ℕ
NO_ROOM = 9

-- ---- a parse

-- The buffers that a parse writes to.
pub record Buffers : Type 0 where
  pub elements : List CompactElement
  pub errors : List ErrorRow
  pub messages : List ℕ

-- The buffers after the tree and the errors of a parse were written, each as far as there is room.
abbrev pub written : Buffers → Parsed → Buffers
written room parsed = record {
  elements = filled room.elements (compact_elements parsed.tree);
  errors = filled room.errors (error_rows 0 parsed.errors);
  messages = filled room.messages (messages parsed.errors);
}

-- How much there is of a parse.
abbrev pub counts_of : Parsed → Counts
counts_of parsed = record {
  elements = length (order parsed.tree);
  text_bytes = length (text parsed.tree);
  errors = length parsed.errors;
  message_bytes = length (messages parsed.errors);
  recursion_high = parsed.recursion_limit.high;
  token_high = parsed.token_limit.high;
  status = OK;
}

-- The counts of a call that was refused.
abbrev pub no_counts : ℕ → Counts
no_counts status = record {
  elements = 0;
  text_bytes = 0;
  errors = 0;
  message_bytes = 0;
  recursion_high = 0;
  token_high = 0;
  status = status;
}

-- The text is UTF-8, and this is its parse, which keeps what `Parser::parse` promises.
pub record IsParse (source : List ℕ) (max_depth max_items : ℕ) (parsed : Parsed) : Type 0 where
  pub utf8 : IsUtf8 source
  pub promise : Promise source max_depth max_items parsed

-- The same of its parse as a selection set, and `Parser::parse_selection_set`.
pub record IsSelectionSetParse (source : List ℕ) (max_depth max_items : ℕ) (parsed : Parsed) : Type 0 where
  pub utf8 : IsUtf8 source
  pub promise : PartPromise selections source max_depth max_items parsed
  pub one_selection_set : (kids : Forest) × (parsed.tree ≡ node kind.SELECTION_SET kids none)

-- The same of its parse as a type, and `Parser::parse_type`.
pub record IsTypeParse (source : List ℕ) (max_depth max_items : ℕ) (parsed : Parsed) : Type 0 where
  pub utf8 : IsUtf8 source
  pub promise : PartPromise type source max_depth max_items parsed
  pub one_type : OneType (first_kind (limited max_items (items_of source))) parsed.tree

-- The text has too many bytes, or its tree too many elements, for twelve bytes an element.
abbrev pub IsTooLong : (Parsed → Type 0) → List ℕ → Type 0
IsTooLong P source = (2 ^ 31 ≤ length source) ⊎ ((parsed : Parsed) × P parsed × (2 ^ 28 ≤ length (order parsed.tree)))

-- What a parse gives, from the buffers before it, the buffers after it, and the counts that it answers. It is one of
-- which `P` holds.
pub record ParseOutcome (P : Parsed → Type 0) (source : List ℕ) (before after : Buffers)
    (counts : Counts) : Type 0 where
  -- the buffers and the counts are those of a parse of the text
  pub ok : counts.status ≡ OK
      → (parsed : Parsed) × P parsed × (after ≡ written before parsed) × (counts ≡ counts_of parsed)
  pub not_utf8 : counts.status ≡ NOT_UTF8 → ¬ IsUtf8 source
  pub too_long : counts.status ≡ TOO_LONG → IsTooLong P source
  -- nothing was written
  pub refused : counts.status ≢ OK → (after ≡ before) × (counts ≡ no_counts counts.status)
  pub known : Contains (OK ∷ NOT_UTF8 ∷ TOO_LONG ∷ NO_MEMORY ∷ []) counts.status

abbrev pub Outcome : List ℕ → ℕ → ℕ → Buffers → Buffers → Counts → Type 0
Outcome source max_depth max_items = ParseOutcome (IsParse source max_depth max_items) source

abbrev pub SelectionSetOutcome : List ℕ → ℕ → ℕ → Buffers → Buffers → Counts → Type 0
SelectionSetOutcome source max_depth max_items = ParseOutcome (IsSelectionSetParse source max_depth max_items) source

abbrev pub TypeOutcome : List ℕ → ℕ → ℕ → Buffers → Buffers → Counts → Type 0
TypeOutcome source max_depth max_items = ParseOutcome (IsTypeParse source max_depth max_items) source

-- ---- one text

-- The buffer and the number of bytes are those of one text of which this holds.
abbrev pub Writes : (List ℕ → Type 0) → List ℕ → List ℕ → ℕ → Type 0
Writes P before after bytes = (text : List ℕ) × P text × (after ≡ filled before text) × (bytes ≡ length text)

-- What the value of a string gives.
pub record StringOutcome (literal before after : List ℕ) (count : ByteCount) : Type 0 where
  -- the text is one string, and its value was written
  pub ok : count.status ≡ OK → Writes (IsStringValue literal) before after count.bytes
  pub not_utf8 : count.status ≡ NOT_UTF8 → ¬ IsUtf8 literal
  pub not_a_string : count.status ≡ NOT_A_STRING → ¬ IsString literal
  -- nothing was written
  pub refused : count.status ≢ OK → (after ≡ before) × (count.bytes ≡ 0)
  pub known : Contains (OK ∷ NOT_UTF8 ∷ NOT_A_STRING ∷ NO_MEMORY ∷ []) count.status
  -- the value has no more bytes than the text
  pub no_longer : count.bytes ≤ length literal

-- What formatting a text gives.
pub record FormatOutcome (source : List ℕ) (max_depth max_items : ℕ) (before after : List ℕ)
    (count : ByteCount) : Type 0 where
  -- the text is a document within both limits, and that document with another layout was written, whole
  pub ok : count.status ≡ OK → Writes (IsFormatted source max_depth max_items) before after count.bytes
  pub whole : count.bytes ≤ length before
  pub not_utf8 : count.status ≡ NOT_UTF8 → ¬ IsUtf8 source
  -- it is such a document, and the buffer has less room than its formatted text can take, as deep as the document nests
  pub no_room : count.status ≡ NO_ROOM → MayExceed source max_depth max_items (length before)
  -- it is no document within both limits, and these are the errors of its parse, at least one
  pub not_a_document : count.status ≡ NOT_A_DOCUMENT → IsNoDocument source max_depth max_items
  -- nothing was written
  pub refused : count.status ≢ OK → (after ≡ before) × (count.bytes ≡ 0)
  pub known : Contains (OK ∷ NOT_UTF8 ∷ NOT_A_DOCUMENT ∷ NO_ROOM ∷ NO_MEMORY ∷ []) count.status
