use Rattle.std.proofs.Common.{length}
use Rattle.std.specs.List.{All}
use Rattle.apollo_tree.specs.References.{node_place}
use Rattle.type_system.specs.Schemas.{types}
use Rattle.query_validation.proofs.stack.inside_parent.Given as goal
use Rattle.query_validation.specs.Stack.{IsLevel}

abbrev pub invariant-levels : goal.invariant-levels
invariant-levels l = All (IsLevel (types l.schema) (node_place l.parent).whole) l.stack.items

abbrev pub decreases-levels : goal.decreases-levels
decreases-levels l = length l.stack.items
