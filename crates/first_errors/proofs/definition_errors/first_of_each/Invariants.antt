use Rattle.std.proofs.Common.{◌≡◌, ◌≤◌, ◌++◌, drop, length, map}
use Rattle.apollo_parser.specs.Errors.{error_of}
use Rattle.first_errors.proofs.definition_errors.first_of_each.Given as goal
use Rattle.first_errors.specs.First.{firsts}
use Rattle.first_errors.specs.Groups.{groups}

-- the first errors so far, and those of the errors that are left
abbrev pub invariant-loop-start : goal.invariant-loop-start
invariant-loop-start g l =
    (l.seen ≤ length l.errors)
    × (map error_of l.found.items ++ firsts (groups (drop l.start-index l.starts) (map error_of (drop l.seen l.errors)))
    ≡ firsts (groups l.starts (map error_of l.errors)))
