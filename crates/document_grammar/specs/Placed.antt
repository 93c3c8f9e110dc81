-- Trees with the leaves of ignored tokens (GraphQL October 2021, section 2.1.7, "Ignored Tokens"): without them, and
-- where they hang, which is this project's own rule.
use Rattle.std.specs.Prelude.{◌≢◌, Bool, false, cond, List, [], ◌++◌, IsTrue}
use Rattle.document_grammar.specs.Choices.{is_ignored}
use Rattle.document_grammar.specs.Derivation.{Yield, Yields}
use Rattle.document_grammar.specs.Tree.{Token, Tree, leaf, node, Forest, none, ◌▸◌}

-- A leaf of an ignored token.
abbrev pub ignored : Tree → Bool
ignored (leaf k x) = is_ignored k
ignored (node k f) = false

-- The tree without its ignored leaves.
abbrev mutual
  pub bare : Tree → Tree
  bare (leaf k x) = leaf k x
  bare (node k f) = node k (bares f)

  pub bares : Forest → Forest
  bares none = none
  bares (t ▸ f) = cond (ignored t) (bares f) (bare t ▸ bares f)

-- Behind children that spell `b`, each ignored leaf has children that spell something before and after it.
abbrev pub Between : List Token → Forest → Type 0
Between b none = Unit {0}
Between b (t ▸ f) = (IsTrue (ignored t) → (b ≢ []) × (Yields f ≢ [])) × Between (b ++ Yield t) f

abbrev mutual
  pub PlacedIn : Tree → Type 0
  PlacedIn (leaf k x) = Unit {0}
  PlacedIn (node k f) = Between [] f × AllPlaced f

  pub AllPlaced : Forest → Type 0
  AllPlaced none = Unit {0}
  AllPlaced (t ▸ f) = PlacedIn t × AllPlaced f

-- Each ignored leaf is a child of the smallest node that has significant leaves before and after it, or of the root: a
-- node other than the root holds an ignored leaf only between significant ones. An ignored child of the root may be
-- anywhere: if no smaller node has leaves on both sides, the root is the one, or there is none.
abbrev pub Placed : Tree → Type 0
Placed (leaf k x) = Unit {0}
Placed (node k f) = AllPlaced f
