use Rattle.std.proofs.Common.{◌≡◌, map, take}
use Rattle.validation_names.proofs.executables.named_definitions.Given as goal
use Rattle.validation_names.specs.Definitions.{as_defined, named_definitions}
use Rattle.validation_names.specs.Mentions.{as_named}

abbrev pub invariant-loop-definition : goal.invariant-loop-definition
invariant-loop-definition g l =
    map as_named l.found.items ≡ named_definitions l.kind (map as_defined (take l.definition-index l.definitions))
