use Rattle.std.proofs.Common.{◌≡◌, ◌+◌, drop, length, map}
use Rattle.std.specs.Prelude.{take_while}
use Rattle.apollo_parser.specs.Errors.{error_of}
use Rattle.first_errors.proofs.definition_errors.count_earlier.Given as goal
use Rattle.first_errors.specs.Groups.{is_earlier}

abbrev pub invariant-loop-count : goal.invariant-loop-count
invariant-loop-count l =
    length (take_while (is_earlier l.start) (map error_of l.errors))
    ≡ l.count + length (take_while (is_earlier l.start) (map error_of (drop l.count l.errors)))
