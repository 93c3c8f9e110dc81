use Rattle.std.proofs.Common.{◌≡◌, map, take}
use Rattle.validation_names.specs.Definitions.{as_defined}
use Rattle.cost_limits.proofs.measures.paired.Given as goal
use Rattle.cost_limits.specs.Measures.{as_measure}

abbrev pub invariant-loop-number : goal.invariant-loop-number
invariant-loop-number g l = record {
  operations_are : map (λ m. m.operation) (map as_measure l.found.items) ≡ map as_defined (take l.number l.operations);
  figures_are : map (λ m. m.figures) (map as_measure l.found.items) ≡ take l.number l.figures;
}
