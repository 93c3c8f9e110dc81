-- The root of a tree.
use Rattle.document_grammar.specs.Forests.{Forest}
use Rattle.document_grammar.specs.declared.kind.SyntaxKind.{SyntaxKind}
use Rattle.apollo_tree.specs.Order.{kind_at}
pub use Rattle.apollo_tree.specs.Open.{one_node}

abbrev pub root_kind : Forest → SyntaxKind
root_kind f = kind_at (record { whole = f; index = 0 })
