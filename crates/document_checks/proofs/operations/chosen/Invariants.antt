use Rattle.std.proofs.Common.{◌≡◌, map, take}
use Rattle.std.specs.List.{filter}
use Rattle.std.specs.Prelude.{option_map}
use Rattle.cost_limits.specs.Measures.{as_measure}
use Rattle.document_checks.proofs.operations.chosen.Given as goal
use Rattle.document_checks.specs.Checking.{is_chosen}

abbrev pub invariant-loop-measured : goal.invariant-loop-measured
invariant-loop-measured l =
    map as_measure l.found.items
    ≡ filter (is_chosen (option_map (λ n. n.now) l.operation)) (map as_measure (take l.measured-index l.operations))
