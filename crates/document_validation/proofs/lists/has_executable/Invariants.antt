use Rattle.std.proofs.Common.{◌≡◌}
use Rattle.std.specs.List.{list_any}
use Rattle.apollo_tree.specs.Children.{child_nodes}
use Rattle.apollo_tree.specs.References.{node_place}
use Rattle.apollo_tree.specs.Yields.{rest_nodes}
use Rattle.document_validation.proofs.lists.has_executable.Given as goal
use Rattle.document_validation.specs.Lists.{is_executable}

abbrev pub invariant-loop-node : goal.invariant-loop-node
invariant-loop-node l =
    list_any is_executable (rest_nodes l.node-iterator) ≡ list_any is_executable (child_nodes (node_place l.document))
