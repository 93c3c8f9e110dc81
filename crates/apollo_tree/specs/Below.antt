-- The elements below an element, and what is looked for among them.
use Rattle.std.specs.Prelude.{ℕ, zero, suc, List, [], ◌∷◌, Bool, not, ◌&&◌, ◌==◌}
use Rattle.document_grammar.specs.Forests.{Forest, count}
use Rattle.document_grammar.specs.Numbers.{is_kind}
use Rattle.document_grammar.specs.declared.kind.SyntaxKind.{SyntaxKind}
use Rattle.apollo_tree.specs.Children.{is_node_place}
use Rattle.apollo_tree.specs.Order.{Place, tree_at, tree_kids, kind_at, range_at}

-- a number of places of a tree's order, from the place i on
abbrev pub places_from : Forest → ℕ → ℕ → List Place
places_from whole i zero = []
places_from whole i (suc n) = record { whole = whole; index = i } ∷ places_from whole (suc i) n

-- the elements below an element come right after it in document order
abbrev pub below : Place → List Place
below p = places_from p.whole (suc p.index) (count (tree_kids (tree_at p)))

abbrev pub at_or_below : Place → List Place
at_or_below p = p ∷ below p

abbrev pub is_leaf_place : Place → Bool
is_leaf_place p = not (is_node_place p)

-- whether the element is a node with the kind and the range of a pointer
abbrev pub is_pointed : SyntaxKind × (ℕ × ℕ) → Place → Bool
is_pointed pointer p =
    is_node_place p && (is_kind pointer.0 (kind_at p)
    && ((range_at p).0 == pointer.1.0 && (range_at p).1 == pointer.1.1))
