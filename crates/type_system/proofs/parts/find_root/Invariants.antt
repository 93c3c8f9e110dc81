use Rattle.std.proofs.Common.{◌≡◌, None, map, take}
use Rattle.std.specs.List.{find}
use Rattle.validation_names.specs.Sites.{as_located}
use Rattle.type_system.proofs.parts.find_root.Given as goal
use Rattle.type_system.specs.Definitions.{is_root}

abbrev pub invariant-loop-site : goal.invariant-loop-site
invariant-loop-site l = find (is_root l.fn.operation) (map as_located (take l.site-index l.fn.roots)) ≡ None
