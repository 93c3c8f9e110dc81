-- Built trees as trees of the grammar: each kind by its number.
use Rattle.std.specs.Prelude.{[]}
use Rattle.document_grammar.specs.Forests as built
use Rattle.document_grammar.specs.Kinds.{ERROR}
use Rattle.document_grammar.specs.Numbers.{number}
use Rattle.document_grammar.specs.Tree.{Tree, leaf, node, Forest, none, ◌▸◌}

abbrev pub numbered : built.Forest → Forest
numbered built.none = none
numbered (built.leaf k s rest) = leaf (number k) s ▸ numbered rest
numbered (built.node k kids rest) = node (number k) (numbered kids) ▸ numbered rest

-- the first of the trees; a built tree is a list of one
abbrev pub tree_of : built.Forest → Tree
tree_of built.none = leaf ERROR []
tree_of (built.leaf k s rest) = leaf (number k) s
tree_of (built.node k kids rest) = node (number k) (numbered kids)
