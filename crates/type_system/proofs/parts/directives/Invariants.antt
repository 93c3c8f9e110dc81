use Rattle.std.proofs.Common.{◌≡◌, map, take}
use Rattle.validation_names.specs.Sites.{as_located}
use Rattle.type_system.proofs.parts.directives.Given as goal
use Rattle.type_system.specs.Types.{directives_in}

abbrev pub invariant-loop-site : goal.invariant-loop-site
invariant-loop-site l =
    map as_located l.found.items ≡ directives_in (map as_located (take l.site-index l.fn.definitions))
