use Rattle.std.proofs.Common.{◌≡◌, map, take}
use Rattle.validation_names.specs.Mentions.{as_named}
use Rattle.validation_rules.proofs.definition_parts.targets.Given as goal
use Rattle.validation_rules.specs.Graphs.{numbers_of}

abbrev pub invariant-loop-spread : goal.invariant-loop-spread
invariant-loop-spread l = l.row.items ≡ numbers_of l.fragments (map as_named (take l.spread-index l.spreads))
