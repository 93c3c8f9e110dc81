use Rattle.std.proofs.Common.{◌≡◌}
use Rattle.std.specs.List.{find}
use Rattle.document_grammar.specs.declared.kind.SyntaxKind.TheVariants.{OPERATION_DEFINITION}
use Rattle.apollo_tree.specs.Above.{at_or_above}
use Rattle.apollo_tree.specs.References.{node_place}
use Rattle.apollo_tree.specs.Yields.{rest_ancestors}
use Rattle.apollo_cst_core.specs.Kinds.{is_of}
use Rattle.editor_answers.proofs.usage.operation_from.Given as goal

abbrev pub invariant-loop-outer : goal.invariant-loop-outer
invariant-loop-outer l = find (is_of OPERATION_DEFINITION) (rest_ancestors l.outer-iterator)
    ≡ find (is_of OPERATION_DEFINITION) (at_or_above (node_place l.fn.node))
