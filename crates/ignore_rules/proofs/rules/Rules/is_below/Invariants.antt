use Rattle.std.proofs.Common.{◌≡◌, [], drop, take}
use Rattle.ignore_rules.proofs.rules.Rules.is_below.Given as goal
use Rattle.ignore_rules.specs.Ignored.{as_rules, is_below}
use Rattle.ignore_rules.specs.Tables.{IsClear}

abbrev pub invariant-loop-index : goal.invariant-loop-index
invariant-loop-index g l =
    (is_below (as_rules l.self) (take l.index l.path) (drop l.index l.path) ≡ is_below (as_rules l.self) [] l.path)
    × IsClear l.table
