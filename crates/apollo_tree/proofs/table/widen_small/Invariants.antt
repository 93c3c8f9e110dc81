use Rattle.std.proofs.Common.{◌≡◌, map, take}
use Rattle.apollo_tree.proofs.table.widen_small.Given as goal
use Rattle.apollo_tree.specs.Widened.{of_small}

abbrev pub invariant-loop-small : goal.invariant-loop-small
invariant-loop-small g l = l.wide.items ≡ map of_small (take l.small-index l.records)
