-- Formatting within limits on the source and on its formatted text.
use Rattle.std.specs.Prelude.{◌<◌, ◌≤◌, ℕ, List, length}
use Rattle.lexical_grammar.specs.Reads.{items_of}
use Rattle.apollo_lexer.specs.declared.limits.Limits.{Limits}
use Rattle.format_layout.specs.Lengths.{most_items}
use Rattle.formatter.specs.Comments.{HasNoDefinitions, HasSameComments}
use Rattle.formatter.specs.Formatted.{IsDocument, IsFormatted}

-- The source is a document within both limits, and this is its formatted text, which is within them too: it is not
-- refused when it is formatted once more.
pub record IsFormattedWithin (limits : Limits) (source text : List ℕ) : Type 0 where
  pub formatted : IsFormatted source limits.recursion limits.tokens text
  pub again : IsDocument text limits.recursion limits.tokens

-- The source is a document within both limits, but its formatted text has more items than are allowed. Some formatted
-- text always has more, so it is `many` that says something: the source has more than a quarter of the items that are
-- allowed.
pub record IsOutgrown (limits : Limits) (source : List ℕ) : Type 0 where
  pub text : List ℕ
  pub formatted : IsFormatted source limits.recursion limits.tokens text
  pub more : limits.tokens < length (items_of text)
  pub many : limits.tokens < most_items (length (items_of source))

-- The source has no definitions, and no more items than are allowed.
pub record HasCommentsAlone (limits : Limits) (source : List ℕ) : Type 0 where
  pub none : HasNoDefinitions source
  pub few : length (items_of source) ≤ limits.tokens

-- It is such a source, and this is its formatted text, which has no more items than are allowed either.
pub record AreCommentsWithin (limits : Limits) (source text : List ℕ) : Type 0 where
  pub comments : HasSameComments source text
  pub few : length (items_of source) ≤ limits.tokens
  pub again : length (items_of text) ≤ limits.tokens

-- It is such a source, but its formatted text has more items. Again `many` says that the source has more than a quarter
-- of them.
pub record AreCommentsOutgrown (limits : Limits) (source : List ℕ) : Type 0 where
  pub text : List ℕ
  pub comments : HasSameComments source text
  pub few : length (items_of source) ≤ limits.tokens
  pub more : limits.tokens < length (items_of text)
  pub many : limits.tokens < most_items (length (items_of source))
