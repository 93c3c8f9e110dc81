use Rattle.std.proofs.Common.{◌≡◌, find}
use Rattle.apollo_tree.specs.Children.{child_nodes}
use Rattle.apollo_tree.specs.References.{node_place}
use Rattle.apollo_tree.specs.Yields.{rest_nodes}
use Rattle.apollo_cst_core.proofs.kinds.child_of.Given as goal
use Rattle.apollo_cst_core.specs.Kinds.{is_of_one}

abbrev pub invariant-loop-child : goal.invariant-loop-child
invariant-loop-child l =
    find (is_of_one l.kinds) (rest_nodes l.child-iterator)
    ≡ find (is_of_one l.kinds) (child_nodes (node_place l.fn.parent))
