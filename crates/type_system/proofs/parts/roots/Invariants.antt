use Rattle.std.proofs.Common.{◌≡◌, map, take}
use Rattle.validation_names.specs.Sites.{as_located}
use Rattle.type_system.proofs.parts.roots.Given as goal
use Rattle.type_system.specs.Types.{roots_in}

abbrev pub invariant-loop-site : goal.invariant-loop-site
invariant-loop-site l =
    map as_located l.found.items ≡ roots_in (map as_located (take l.site-index l.fn.definitions))
