use Rattle.std.proofs.Common.{◌≡◌, map}
use Rattle.std.specs.List.{filter, range_with_len}
use Rattle.validation_rules.proofs.definition_parts.operations.Given as goal
use Rattle.validation_rules.specs.Parts.{as_parts, at, is_operation}

abbrev pub invariant-loop-number : goal.invariant-loop-number
invariant-loop-number l =
    l.numbers.items ≡ filter (λ number. is_operation (at (map as_parts l.parts) number)) (range_with_len 0 l.number)
