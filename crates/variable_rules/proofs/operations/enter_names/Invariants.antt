use Rattle.std.proofs.Common.{map, take}
use Rattle.validation_names.specs.Mentions.{as_named}
use Rattle.variable_rules.proofs.operations.enter_names.Given as goal
use Rattle.variable_rules.specs.UsedNames.{AddsNames}

abbrev pub invariant-loop-number : goal.invariant-loop-number
invariant-loop-number l = AddsNames l.initial.known l.known (map as_named (take l.number l.items))
