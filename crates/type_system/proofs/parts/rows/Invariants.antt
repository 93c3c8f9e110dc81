use Rattle.std.proofs.Common.{length, map, take}
use Rattle.validation_names.specs.Names.{entry_of}
use Rattle.validation_names.specs.Sites.{as_located}
use Rattle.type_system.proofs.parts.rows.Given as goal
use Rattle.type_system.specs.Rows.{AreRows}
use Rattle.type_system.specs.Types.{items_of}

abbrev pub invariant-loop-site : goal.invariant-loop-site
invariant-loop-site l =
    AreRows (items_of (entry_of l.fn.types) l.fn.block (map as_located (take l.site-index l.fn.definitions)))
    (length l.fn.definitions) l.rows.items
