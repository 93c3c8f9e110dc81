use Rattle.std.proofs.Common.{◌≡◌, map, take, string_bytes}
use Rattle.validation_names.specs.Definitions.{as_defined}
use Rattle.editor_validation.proofs.fragments.spread_names.Given as goal
use Rattle.editor_validation.specs.Fragments.{spread_by}

abbrev pub invariant-loop-definition : goal.invariant-loop-definition
invariant-loop-definition l =
    map string_bytes l.names.items ≡ spread_by (map as_defined (take l.definition-index l.definitions))
