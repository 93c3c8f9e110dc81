use Rattle.std.proofs.Common.{map, take}
use Rattle.std.specs.List.{flat_map}
use Rattle.validation_names.specs.Mentions.{as_named}
use Rattle.variable_rules.proofs.used_names.names_among.Given as goal
use Rattle.variable_rules.specs.UsedNames.{AreFirsts, row_at}

abbrev pub invariant-loop-number : goal.invariant-loop-number
invariant-loop-number l =
    AreFirsts l.known (map as_named l.items.items) (flat_map (row_at l.names) (take l.number-index l.numbers))
