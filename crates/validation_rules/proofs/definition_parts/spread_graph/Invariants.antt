use Rattle.std.proofs.Common.{◌≡◌, map, take}
use Rattle.validation_rules.proofs.SpreadLemmas.{row_items, spread_numbers}
use Rattle.validation_rules.proofs.definition_parts.spread_graph.Given as goal
use Rattle.validation_rules.specs.Parts.{as_parts}

abbrev pub invariant-loop-definition : goal.invariant-loop-definition
invariant-loop-definition l =
    map row_items l.graph.items ≡ map (spread_numbers l.fragments) (map as_parts (take l.definition-index l.parts))
