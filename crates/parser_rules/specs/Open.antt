-- What the calls of a parser's steps ask: which nodes are open.
use Rattle.std.specs.Prelude.{◌≡◌, ◌<◌, ℕ, Bool, true, false, List, [], ◌∷◌}
use Rattle.document_grammar.specs.Builds.{Building, Open, CanOpenAt}
use Rattle.document_grammar.specs.Forests.{none}
use Rattle.document_grammar.specs.declared.kind.SyntaxKind.{SyntaxKind}
use Rattle.document_grammar.specs.declared.kind.SyntaxKind.TheVariants as kind
use Rattle.parser_rules.specs.State.{State}

-- the kinds whose nodes may have any children; a name and the literals have one leaf
abbrev pub is_free : SyntaxKind → Bool
is_free kind.NAME = false
is_free kind.INT_VALUE = false
is_free kind.STRING_VALUE = false
is_free kind.BOOLEAN_VALUE = false
is_free _ = true

abbrev pub is_free_in : List Open → Bool
is_free_in [] = false
is_free_in (o ∷ above) = is_free o.kind

-- a node is open that may have any children
unfoldable pub IsOpen : Building → Type 0
IsOpen building = is_free_in building.above ≡ true

-- an index where a node may open around what was added since
unfoldable pub IsCheckpoint : ℕ → Building → Type 0
IsCheckpoint index building = CanOpenAt index building

-- a level was entered
unfoldable pub IsInside : State → Type 0
IsInside state = 0 < state.depth

-- the root alone is open, and nothing comes before it
abbrev pub IsRoot : Building → Type 0
IsRoot building = (this_kind : SyntaxKind) × (is_free this_kind ≡ true)
    × (building.above ≡ record { before = none; kind = this_kind } ∷ [])
