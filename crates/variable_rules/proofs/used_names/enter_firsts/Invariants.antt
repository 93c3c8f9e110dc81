use Rattle.std.proofs.Common.{List, ◌++◌, map, take}
use Rattle.validation_names.specs.Mentions.{Named, as_named}
use Rattle.variable_rules.proofs.used_names.enter_firsts.Given as goal
use Rattle.variable_rules.specs.UsedNames.{AreFirsts}

abbrev pub invariant-loop-item : goal.invariant-loop-item
invariant-loop-item l =
    (before : List Named) → AreFirsts l.initial.known (map as_named l.initial.firsts.items) before
    → AreFirsts l.known (map as_named l.firsts.items) (before ++ map as_named (take l.item-index l.items))
