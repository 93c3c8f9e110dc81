use Rattle.std.proofs.Common.{◌≡◌, ◌++◌, map}
use Rattle.apollo_tree.specs.Above.{at_or_above}
use Rattle.apollo_tree.specs.References.{node_place}
use Rattle.apollo_tree.specs.Yields.{rest_ancestors}
use Rattle.query_validation.proofs.contexts.ancestors.Given as goal

abbrev pub invariant-loop-outer : goal.invariant-loop-outer
invariant-loop-outer l =
    map node_place l.found.items ++ rest_ancestors l.outer-iterator ≡ at_or_above (node_place l.fn.node)
