use Rattle.std.proofs.Common.{◌≡◌, map, take}
use Rattle.cost_limits.specs.Measures.{as_measure}
use Rattle.c_validation.proofs.operation_rows.rows_of.Given as goal
use Rattle.c_validation.specs.Rows.{operation_row}

abbrev pub invariant-loop-measured : goal.invariant-loop-measured
invariant-loop-measured g l = l.rows.items ≡ map operation_row (map as_measure (take l.measured-index l.operations))
