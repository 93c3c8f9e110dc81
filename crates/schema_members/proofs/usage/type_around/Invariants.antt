use Rattle.std.proofs.Common.{◌≡◌}
use Rattle.std.specs.List.{find}
use Rattle.apollo_tree.specs.Above.{at_or_above}
use Rattle.apollo_tree.specs.References.{node_place}
use Rattle.apollo_tree.specs.Yields.{rest_ancestors}
use Rattle.apollo_cst_core.specs.Kinds.{is_of_one}
use Rattle.schema_members.proofs.usage.type_around.Given as goal
use Rattle.schema_members.specs.declared.definitions.TheConstants.{TYPES}

abbrev pub invariant-loop-outer : goal.invariant-loop-outer
invariant-loop-outer l =
    find (is_of_one TYPES) (rest_ancestors l.outer-iterator)
    ≡ find (is_of_one TYPES) (at_or_above (node_place l.fn.node))
