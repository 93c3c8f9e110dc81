use Rattle.std.proofs.Common.{map, take}
use Rattle.validation_names.specs.Names.{entry_of}
use Rattle.validation_names.specs.Sites.{as_located}
use Rattle.type_system.proofs.tables.first_typed.Given as goal
use Rattle.type_system.specs.Tables.{AreFirstTyped}

abbrev pub invariant-loop-site : goal.invariant-loop-site
invariant-loop-site l =
    AreFirstTyped (entry_of l.fn.types) l.entries (map as_located (take l.site-index l.fn.sites))
