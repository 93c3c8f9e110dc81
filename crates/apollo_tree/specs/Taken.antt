-- The elements that a test by kind takes.
use Rattle.std.specs.Prelude.{Bool}
use Rattle.document_grammar.specs.declared.kind.SyntaxKind.{SyntaxKind}
use Rattle.apollo_tree.specs.Children.{is_node_place}
use Rattle.apollo_tree.specs.Order.{Place, kind_at}

abbrev pub takes_place : (Bool → SyntaxKind → Bool) → Place → Bool
takes_place takes p = takes (is_node_place p) (kind_at p)
