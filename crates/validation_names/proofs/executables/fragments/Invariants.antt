use Rattle.std.proofs.Common.{map, take}
use Rattle.validation_names.proofs.executables.fragments.Given as goal
use Rattle.validation_names.specs.Definitions.{as_defined, fragment_names}
use Rattle.validation_names.specs.Names.{AreFirstNumbers}

abbrev pub invariant-loop-number : goal.invariant-loop-number
invariant-loop-number g l = AreFirstNumbers l.fragments (fragment_names (map as_defined (take l.number l.definitions)))
