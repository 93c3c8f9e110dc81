-- The elements of a tree, its leaves and nodes, in document order: each with its tree, its range, its parent and its
-- children.
use Rattle.std.specs.Prelude.{ℕ, suc, ◌+◌, List, [], ◌∷◌, ◌++◌, length, get_or, Bool, true, false, Option, Some, None}
use Rattle.std.specs.Prelude.{option_map}
use Rattle.document_grammar.specs.Forests.{Forest, none, leaf, node, Tree, Leaf, Node, text, count}
use Rattle.document_grammar.specs.declared.kind.SyntaxKind.{SyntaxKind}
use Rattle.document_grammar.specs.declared.kind.SyntaxKind.TheVariants.{ERROR}

abbrev pub tree_kind : Tree → SyntaxKind
tree_kind (Leaf k s) = k
tree_kind (Node k kids) = k

abbrev pub tree_text : Tree → List ℕ
tree_text (Leaf k s) = s
tree_text (Node k kids) = text kids

abbrev pub tree_kids : Tree → Forest
tree_kids (Leaf k s) = none
tree_kids (Node k kids) = kids

abbrev pub is_node : Tree → Bool
is_node (Leaf k s) = false
is_node (Node k kids) = true

-- an element: its tree, where its text begins, its parent and its children, as places in the order
pub record Element : Type 0 where
  pub tree : Tree
  pub start : ℕ
  pub parent : Option ℕ
  pub children : List ℕ

-- the places of trees whose first one has the place i
abbrev pub places : ℕ → Forest → List ℕ
places i none = []
places i (leaf k s rest) = i ∷ places (suc i) rest
places i (node k kids rest) = i ∷ places (suc (i + count kids)) rest

-- the elements of trees under one parent, of which the first has the place i, and whose text begins at a place
abbrev pub order_from : ℕ → ℕ → Option ℕ → Forest → List Element
order_from at i parent none = []
order_from at i parent (leaf k s rest) =
    record { tree = Leaf k s; start = at; parent = parent; children = [] }
    ∷ order_from (at + length s) (suc i) parent rest
order_from at i parent (node k kids rest) =
    record { tree = Node k kids; start = at; parent = parent; children = places (suc i) kids }
    ∷ (order_from at (suc i) (Some i) kids ++ order_from (at + length (text kids)) (suc (i + count kids)) parent rest)

abbrev pub order : Forest → List Element
order f = order_from 0 0 None f

-- an element of a tree: the tree, and the element's place in its order
pub record Place : Type 0 where
  pub whole : Forest
  pub index : ℕ

abbrev pub nowhere : Element
nowhere = record { tree = Leaf ERROR []; start = 0; parent = None; children = [] }

abbrev pub element : Place → Element
element p = get_or (order p.whole) p.index nowhere

abbrev pub tree_at : Place → Tree
tree_at p = (element p).tree

abbrev pub kind_at : Place → SyntaxKind
kind_at p = tree_kind (tree_at p)

abbrev pub text_at : Place → List ℕ
text_at p = tree_text (tree_at p)

-- the bytes of the whole text that the element's text takes up: the offset where it begins, and the offset where it has
-- ended
abbrev pub range_at : Place → ℕ × ℕ
range_at p = ((element p).start, (element p).start + length (text_at p))

-- the parent of an element
abbrev pub parent_place : Place → Option Place
parent_place p = option_map (λ i. record { whole = p.whole; index = i }) (element p).parent
