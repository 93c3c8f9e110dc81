-- What cutting a text into its items gives.
use Rattle.std.specs.Int.{from_bool}
use Rattle.std.specs.List.{Contains}
use Rattle.std.specs.Prelude.{◌≡◌, ◌≢◌, ◌≤◌, ◌+◌, ◌^◌, ℕ, not, is_none, List, [], ◌∷◌, length, map, filter, Option}
use Rattle.std.specs.Prelude.{Some, None}
use Rattle.std.specs.Str.{IsUtf8}
use Rattle.lexical_grammar.specs.declared.TokenKind.{TokenKind}
use Rattle.apollo_parser.specs.Answers.{Answer, gives, limit_at, is_token, limited}
use Rattle.apollo_parser.specs.Cut.{Cut}
use Rattle.apollo_parser.specs.Diagnostics.{Diagnostic}
use Rattle.apollo_parser.specs.Filled.{filled}
use Rattle.apollo_parser.specs.Kinds.{ERROR}
use Rattle.apollo_parser.specs.LexErrors.{AreLexErrors}
use Rattle.apollo_parser.specs.Reads.{items_of}
use Rattle.apollo_parser.specs.Sentence.{leaf_number}
use Rattle.c_parsing.specs.Outcomes.{no_counts, OK, NOT_UTF8, TOO_LONG, NO_MEMORY}
use Rattle.c_parsing.specs.Rows.{error_rows, messages}
use Rattle.c_parsing.specs.declared.rows.Counts.{Counts}
use Rattle.c_parsing.specs.declared.rows.ErrorRow.{ErrorRow}
use Rattle.c_parsing.specs.declared.rows.ItemRow.{ItemRow}

-- ---- rows

-- The number of an item's kind: its leaf's in a tree, IDENT's for each Name; ERROR's for bad text and for the end.
abbrev pub item_kind : Option TokenKind → ℕ
item_kind None = ERROR
item_kind (Some kind) = leaf_number kind

-- The row of an item, or of the limit where it is met.
abbrev pub item_row : Answer → ItemRow
item_row (gives item) = record {
  start = item.index;
  end = item.index + length item.text;
  kind = item_kind item.kind;
  is_error = from_bool (is_none item.kind);
}
item_row (limit_at index) = record { start = index; end = index; kind = ERROR; is_error = 1 }

-- ---- the call

-- The buffers that the items are written to.
pub record ItemBuffers : Type 0 where
  pub items : List ItemRow
  pub errors : List ErrorRow
  pub messages : List ℕ

-- The buffers after the answers of a lexer and their errors were written, each as far as there is room.
abbrev pub items_written : ItemBuffers → List Answer → List Diagnostic → ItemBuffers
items_written room answers errors = record {
  items = filled room.items (map item_row answers);
  errors = filled room.errors (error_rows 0 errors);
  messages = filled room.messages (messages errors);
}

-- How much there is of them.
abbrev pub item_counts : List Answer → List Diagnostic → Counts
item_counts answers errors = record {
  elements = length answers;
  text_bytes = 0;
  errors = length errors;
  message_bytes = length (messages errors);
  recursion_high = 0;
  token_high = length answers;
  status = OK;
}

-- The text is UTF-8. These answers are its items, a cut of the text, or the first of them and the limit; these errors
-- are theirs, one for each bad text and for the limit.
pub record IsLexed (source : List ℕ) (max_items : ℕ) (answers : List Answer) (errors : List Diagnostic) : Type 0 where
  pub utf8 : IsUtf8 source
  pub cut : Cut source (items_of source)
  pub answers_are : answers ≡ limited max_items (items_of source)
  pub errors_are : AreLexErrors (filter (λ answer. not (is_token answer)) answers) errors

-- What the call gives, from the buffers before it, the buffers after it, and the counts that it answers.
pub record ItemsOutcome (source : List ℕ) (max_items : ℕ) (before after : ItemBuffers) (counts : Counts) : Type 0 where
  -- the buffers and the counts are those of the items and their errors
  pub ok : counts.status ≡ OK
      → (answers : List Answer) × (errors : List Diagnostic) × IsLexed source max_items answers errors
      × (after ≡ items_written before answers errors) × (counts ≡ item_counts answers errors)
  pub not_utf8 : counts.status ≡ NOT_UTF8 → ¬ IsUtf8 source
  pub too_long : counts.status ≡ TOO_LONG → 2 ^ 31 ≤ length source
  pub refused : counts.status ≢ OK
      → (after.errors ≡ before.errors) × (after.messages ≡ before.messages) × (counts ≡ no_counts counts.status)
  -- nothing was written, unless memory was refused, which may be after some items
  pub unchanged : counts.status ≢ OK → counts.status ≢ NO_MEMORY → after ≡ before
  pub known : Contains (OK ∷ NOT_UTF8 ∷ TOO_LONG ∷ NO_MEMORY ∷ []) counts.status
