use Rattle.std.proofs.Common.{◌≡◌, false, map, take}
use Rattle.validation_names.specs.Sites.{as_located}
use Rattle.type_system.proofs.parts.has_schema.Given as goal
use Rattle.type_system.specs.Types.{has_schema}

abbrev pub invariant-loop-site : goal.invariant-loop-site
invariant-loop-site l = has_schema (map as_located (take l.site-index l.fn.definitions)) ≡ false
