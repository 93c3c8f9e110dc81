use Rattle.std.proofs.Common.{All, map, take}
use Rattle.cost_limits.proofs.limits.within.Given as goal
use Rattle.cost_limits.specs.Limits.{IsWithin}
use Rattle.cost_limits.specs.Measures.{as_measure}

abbrev pub invariant-loop-measured : goal.invariant-loop-measured
invariant-loop-measured l = All (IsWithin l.limits) (take l.measured-index (map as_measure l.operations))
