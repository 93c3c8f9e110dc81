use Rattle.std.proofs.Common.{map, take}
use Rattle.std.specs.List.{flat_map}
use Rattle.validation_rules.proofs.spread_rules.add_unused_fragments.Given as goal
use Rattle.validation_rules.specs.Broken.{unused_fragment_at}
use Rattle.validation_rules.specs.Parts.{as_parts, numbers}
use Rattle.validation_rules.specs.Violations.{Adds}

abbrev pub invariant-loop-number : goal.invariant-loop-number
invariant-loop-number l =
    Adds (flat_map (unused_fragment_at (map as_parts l.parts)) (take l.number (numbers (map as_parts l.parts))))
    l.initial.violations l.violations
