use Rattle.std.proofs.Common.{◌<◌, ℕ, map}
use Rattle.validation_names.specs.Definitions.{as_defined, fragment_names}
use Rattle.cost_limits.proofs.measures.twins.Given as goal
use Rattle.cost_limits.specs.Measures.{IsFirst}

abbrev pub invariant-loop-number : goal.invariant-loop-number
invariant-loop-number g l = (k : ℕ) → k < l.number → IsFirst (fragment_names (map as_defined l.definitions)) k
