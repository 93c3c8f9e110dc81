use Rattle.std.proofs.Common.{map, take}
use Rattle.validation_names.specs.Sites.{as_located}
use Rattle.type_system.proofs.tables.first_by_name.Given as goal
use Rattle.type_system.specs.Tables.{AreFirst}

abbrev pub invariant-loop-site : goal.invariant-loop-site
invariant-loop-site l = AreFirst l.entries (map as_located (take l.site-index l.fn.sites))
