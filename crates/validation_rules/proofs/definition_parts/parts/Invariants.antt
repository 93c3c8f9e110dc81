use Rattle.std.proofs.Common.{◌≡◌, map, take}
use Rattle.validation_names.specs.Definitions.{as_defined}
use Rattle.validation_rules.proofs.definition_parts.parts.Given as goal
use Rattle.validation_rules.specs.Parts.{as_parts, parts_of}

abbrev pub invariant-loop-definition : goal.invariant-loop-definition
invariant-loop-definition l =
    map as_parts l.parts.items ≡ map (λ d. parts_of (as_defined d)) (take l.definition-index l.definitions)
