use Rattle.std.proofs.Common.{map, take}
use Rattle.validation_names.specs.Names.{AreFirstNumbers}
use Rattle.validation_names.specs.Sites.{as_located}
use Rattle.type_system.proofs.tables.first_numbers.Given as goal
use Rattle.type_system.specs.Definitions.{named_as}

abbrev pub invariant-loop-number : goal.invariant-loop-number
invariant-loop-number l =
    AreFirstNumbers l.numbers (map (named_as l.fn.kinds) (map as_located (take l.number l.fn.definitions)))
