-- Texts without definitions: files that are empty, or have comments alone.
use Rattle.std.specs.Prelude.{◌≡◌, ℕ, true, List, []}
use Rattle.lexical_grammar.specs.Cut.{Item, Cut, Significant, are_tokens}
use Rattle.lexical_grammar.specs.Kept.{Holds, Kept}

-- The text has a cut without bad text and without significant tokens: nothing, or comments, commas and white space
-- alone.
pub record HasNoDefinitions (source : List ℕ) : Type 0 where
  pub items : List Item
  pub cut : Cut source items
  pub tokens : are_tokens items ≡ true
  pub none : Significant items ≡ []

-- The source is such a text. The other one has the same comments, in their order, and no other token that is
-- significant.
pub record HasSameComments (source text : List ℕ) : Type 0 where
  pub only : HasNoDefinitions source
  pub same : Holds text (Kept only.items)
