-- A second call, with the room that the first call counted.
use Rattle.std.specs.Prelude.{◌≡◌, ℕ, List, length, map}
use Rattle.apollo_parser.specs.Answers.{Answer}
use Rattle.apollo_parser.specs.Compact.{compact_elements}
use Rattle.apollo_parser.specs.Diagnostics.{Diagnostic}
use Rattle.apollo_parser.specs.Parsed.{Parsed}
use Rattle.c_parsing.specs.Items.{IsLexed, ItemBuffers, item_row}
use Rattle.c_parsing.specs.Outcomes.{Buffers, IsParse}
use Rattle.c_parsing.specs.Rows.{error_rows, messages}
use Rattle.c_parsing.specs.declared.rows.Counts.{Counts}

-- The buffers have room for just what was counted.
pub record HasRoom (buffers : Buffers) (counts : Counts) : Type 0 where
  pub elements : length buffers.elements ≡ counts.elements
  pub errors : length buffers.errors ≡ counts.errors
  pub messages : length buffers.messages ≡ counts.message_bytes

-- The buffers hold all of a parse of the text.
pub record HoldParse (source : List ℕ) (max_depth max_items : ℕ) (buffers : Buffers) : Type 0 where
  pub parsed : Parsed
  pub parse : IsParse source max_depth max_items parsed
  pub elements : buffers.elements ≡ compact_elements parsed.tree
  pub errors : buffers.errors ≡ error_rows 0 parsed.errors
  pub messages : buffers.messages ≡ messages parsed.errors

-- The same for the items of a text.
pub record HasItemRoom (buffers : ItemBuffers) (counts : Counts) : Type 0 where
  pub items : length buffers.items ≡ counts.elements
  pub errors : length buffers.errors ≡ counts.errors
  pub messages : length buffers.messages ≡ counts.message_bytes

-- The buffers hold all items of the text and all their errors.
pub record HoldItems (source : List ℕ) (max_items : ℕ) (buffers : ItemBuffers) : Type 0 where
  pub answers : List Answer
  pub diagnostics : List Diagnostic
  pub lexed : IsLexed source max_items answers diagnostics
  pub items : buffers.items ≡ map item_row answers
  pub errors : buffers.errors ≡ error_rows 0 diagnostics
  pub messages : buffers.messages ≡ messages diagnostics
