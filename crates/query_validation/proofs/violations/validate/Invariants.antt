use Rattle.std.proofs.Common.{◌≡◌, map, take}
use Rattle.std.specs.List.{filter, flat_map}
use Rattle.validation_names.specs.Sites.{as_located}
use Rattle.type_system.specs.Schemas.{types}
use Rattle.query_validation.proofs.violations.validate.Given as goal
use Rattle.query_validation.specs.Breaches.{as_breach, definition_breaches, is_executable}

abbrev pub invariant-loop-definition : goal.invariant-loop-definition
invariant-loop-definition l =
    take l.most (map as_breach l.found.items)
    ≡ take l.most
    (flat_map (definition_breaches (types l.schema))
    (filter is_executable (map as_located (take l.definition-index l.definition-items))))
