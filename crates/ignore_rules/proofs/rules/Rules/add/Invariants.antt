use Rattle.std.proofs.Common.{◌≡◌, ◌++◌, map}
use Rattle.std.specs.List.{filter_map}
use Rattle.ignore_rules.proofs.PartLemmas.{parts_left, size_left}
use Rattle.ignore_rules.proofs.rules.Rules.add.Given as goal
use Rattle.ignore_rules.specs.Fits.{byte}
use Rattle.ignore_rules.specs.Ignored.{as_rules}
use Rattle.ignore_rules.specs.Lines.{as_rule, rule_of}

abbrev pub invariant-loop-rest : goal.invariant-loop-rest
invariant-loop-rest g l =
    as_rules l.initial.self ++ filter_map (rule_of (map byte l.before.items)) (parts_left 10 l.initial.rest)
    ≡ map as_rule l.self.rules.items ++ filter_map (rule_of (map byte l.before.items)) (parts_left 10 l.rest)

abbrev pub decreases-loop-rest : goal.decreases-loop-rest
decreases-loop-rest g l = size_left l.rest
