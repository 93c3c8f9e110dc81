-- How many children an accessor finds at a node that keeps to the grammar.
use Rattle.std.specs.Prelude.{◌≡◌, ℕ, true, List, [], ◌∷◌, ◌⊎◌, ⊤}
use Rattle.document_grammar.specs.Derivation.{Fits}
use Rattle.document_grammar.specs.Forests.{Forest, none, first}
use Rattle.document_grammar.specs.Numbered.{tree_of}
use Rattle.document_grammar.specs.Numbers.{number}
use Rattle.document_grammar.specs.Placed.{bare}
use Rattle.document_grammar.specs.declared.kind.SyntaxKind.{SyntaxKind}
use Rattle.apollo_tree.specs.Children.{is_node_place}
use Rattle.apollo_tree.specs.Order.{Place, tree_at, kind_at}
use Rattle.apollo_cst_core.specs.Cast.{one_of, cast_children, leaves_of}

-- how many children of some kinds a row allows
pub data Multiplicity : Type 0 where
  exactly_one : Multiplicity
  at_most_one : Multiplicity
  at_least_one : Multiplicity
  any_number : Multiplicity

-- an accessor: the kind of its node; the kinds of the child nodes that it looks for, or the kind of the leaf; and how
-- many the row allows
pub data Accessor : Type 0 where
  nodes : ℕ → List ℕ → Multiplicity → Accessor
  leaf : ℕ → ℕ → Multiplicity → Accessor

abbrev pub place : Forest → ℕ → Place
place whole i = record { whole = whole; index = i }

-- a node that fits its row, as all nodes below it do, when the ignored leaves are left out
pub record FitsRow (p : Place) : Type 0 where
  pub node : is_node_place p ≡ true
  pub rows : Fits (bare (tree_of (first (tree_at p) none)))

abbrev pub HasMultiplicity : Multiplicity → List Place → Type 0
HasMultiplicity exactly_one found = (c : Place) × (found ≡ c ∷ [])
HasMultiplicity at_most_one found = (found ≡ []) ⊎ ((c : Place) × (found ≡ c ∷ []))
HasMultiplicity at_least_one found = (c : Place) × (more : List Place) × (found ≡ c ∷ more)
HasMultiplicity any_number found = ⊤

-- a node of the accessor's kind has as many children of the kinds that it looks for as the accessor says
abbrev pub ReadsAt : Place → Accessor → Type 0
ReadsAt p (nodes kind kinds n) = number (kind_at p) ≡ kind → HasMultiplicity n (cast_children (one_of kinds) p)
ReadsAt p (leaf kind of n) =
    number (kind_at p) ≡ kind → (k : SyntaxKind) → number k ≡ of → HasMultiplicity n (leaves_of k p)
