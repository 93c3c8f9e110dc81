use Rattle.std.proofs.Common.{◌≡◌}
use Rattle.std.specs.List.{list_any}
use Rattle.document_grammar.specs.declared.kind.SyntaxKind.TheVariants.{IMPLEMENTS_INTERFACES}
use Rattle.apollo_tree.specs.Children.{child_nodes}
use Rattle.apollo_tree.specs.References.{node_place}
use Rattle.apollo_tree.specs.Yields.{rest_nodes}
use Rattle.apollo_cst_core.specs.Kinds.{is_of}
use Rattle.schema_members.proofs.usage.has_interface.Given as goal

abbrev pub invariant-loop-part : goal.invariant-loop-part
invariant-loop-part l =
    list_any (is_of IMPLEMENTS_INTERFACES) (rest_nodes l.part-iterator)
    ≡ list_any (is_of IMPLEMENTS_INTERFACES) (child_nodes (node_place l.fn.definition))
