use Rattle.std.proofs.Common.{map}
use Rattle.validation_names.specs.Names.{entry_of}
use Rattle.validation_names.specs.Sites.{as_located}
use Rattle.type_system.proofs.parts.parts_of_rows.Given as goal
use Rattle.type_system.specs.Rows.{AreOfRows}

abbrev pub invariant-loop-number : goal.invariant-loop-number
invariant-loop-number l =
    AreOfRows (entry_of l.fn.types) (map as_located l.fn.definitions) l.fn.fields l.fn.values l.fn.inputs l.parts.items
    l.number
