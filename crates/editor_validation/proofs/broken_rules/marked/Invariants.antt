use Rattle.std.proofs.Common.{◌≡◌, find}
use Rattle.apollo_tree.specs.Children.{child_nodes}
use Rattle.apollo_tree.specs.References.{node_place}
use Rattle.apollo_tree.specs.Yields.{rest_nodes}
use Rattle.editor_validation.proofs.broken_rules.marked.Given as goal
use Rattle.editor_validation.specs.Diagnostics.{names}

abbrev pub invariant-loop-child : goal.invariant-loop-child
invariant-loop-child l = find names (rest_nodes l.child-iterator) ≡ find names (child_nodes (node_place l.node))
