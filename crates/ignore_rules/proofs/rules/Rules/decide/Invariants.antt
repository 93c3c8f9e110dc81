use Rattle.std.proofs.Common.{◌≡◌, drop, false, map}
use Rattle.ignore_rules.proofs.rules.Rules.decide.Given as goal
use Rattle.ignore_rules.specs.Ignored.{as_rules, decided}
use Rattle.ignore_rules.specs.Lines.{as_rule}
use Rattle.ignore_rules.specs.Tables.{IsClear}

abbrev pub invariant-loop-rule : goal.invariant-loop-rule
invariant-loop-rule g l =
    (decided l.is_folder l.path l.ignored (map as_rule (drop l.rule-index l.self.rules.items))
    ≡ decided l.is_folder l.path false (as_rules l.self))
    × IsClear l.table
