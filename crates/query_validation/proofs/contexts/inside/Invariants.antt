use Rattle.std.proofs.Common.{◌≡◌, ◌≤◌, drop, length, map}
use Rattle.apollo_tree.specs.References.{node_place}
use Rattle.type_system.specs.Schemas.{types}
use Rattle.query_validation.proofs.contexts.inside.Given as goal
use Rattle.query_validation.specs.Contexts.{as_context, inside}

abbrev pub invariant-loop-left : goal.invariant-loop-left
invariant-loop-left l = record {
  within : l.left ≤ length l.chain;
  context : as_context l.context ≡ inside (types l.schema) (map node_place (drop l.left l.chain));
}

abbrev pub decreases-loop-left : goal.decreases-loop-left
decreases-loop-left l = l.left
