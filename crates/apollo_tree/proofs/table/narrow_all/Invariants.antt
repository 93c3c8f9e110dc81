use Rattle.std.proofs.Common.{◌≡◌, map, take}
use Rattle.apollo_tree.proofs.table.narrow_all.Given as goal
use Rattle.apollo_tree.specs.Widened.{of_small, widened}

abbrev pub invariant-loop-small : goal.invariant-loop-small
invariant-loop-small g l = map widened l.all.items ≡ map of_small (take l.small-index l.records)
