use Rattle.std.proofs.Common.{◌≡◌, map, take}
use Rattle.std.specs.List.{filter}
use Rattle.validation_names.specs.Definitions.{as_defined}
use Rattle.cost_limits.proofs.measures.operations.Given as goal
use Rattle.cost_limits.specs.Measures.{is_measured, operations}

abbrev pub invariant-loop-number : goal.invariant-loop-number
invariant-loop-number g l = record {
  operations_are : map as_defined l.operations.items
      ≡ filter (is_measured l.measured) (map as_defined (take l.number l.definitions));
  numbers_are : l.numbers.items ≡ operations l.measured 0 (map as_defined (take l.number l.definitions));
}
