use Rattle.std.proofs.Common.{map, take}
use Rattle.std.specs.List.{flat_map}
use Rattle.validation_rules.proofs.name_rules.add_anonymous.Given as goal
use Rattle.validation_rules.specs.Broken.{not_alone_at}
use Rattle.validation_rules.specs.Parts.{as_parts}
use Rattle.validation_rules.specs.Violations.{Adds}

abbrev pub invariant-loop-number : goal.invariant-loop-number
invariant-loop-number l =
    Adds (flat_map (not_alone_at (map as_parts l.parts)) (take l.number-index l.numbers))
    l.initial.violations l.violations
