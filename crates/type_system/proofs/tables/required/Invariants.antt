use Rattle.std.proofs.Common.{◌≡◌, map, take}
use Rattle.std.specs.List.{filter}
use Rattle.validation_names.specs.Sites.{as_located}
use Rattle.type_system.proofs.tables.required.Given as goal
use Rattle.type_system.specs.Definitions.{is_required}

abbrev pub invariant-loop-site : goal.invariant-loop-site
invariant-loop-site l =
    map as_located l.found.items ≡ filter is_required (map as_located (take l.site-index l.fn.sites))
