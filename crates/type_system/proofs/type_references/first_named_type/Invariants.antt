use Rattle.std.proofs.Common.{◌≡◌}
use Rattle.std.specs.List.{find}
use Rattle.document_grammar.specs.declared.kind.SyntaxKind.TheVariants.{NAMED_TYPE}
use Rattle.apollo_tree.specs.References.{node_place}
use Rattle.apollo_tree.specs.Yields.{rest_descendant_nodes}
use Rattle.apollo_cst_core.specs.Kinds.{is_of}
use Rattle.validation_names.specs.Sites.{nodes}
use Rattle.type_system.proofs.type_references.first_named_type.Given as goal

abbrev pub invariant-loop-part : goal.invariant-loop-part
invariant-loop-part l =
    find (is_of NAMED_TYPE) (rest_descendant_nodes l.part-iterator)
    ≡ find (is_of NAMED_TYPE) (nodes (node_place l.fn.node))
