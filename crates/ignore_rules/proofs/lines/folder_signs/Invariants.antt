use Rattle.std.proofs.Common.{◌≡◌, map, take}
use Rattle.ignore_rules.proofs.lines.folder_signs.Given as goal
use Rattle.ignore_rules.specs.Fits.{as_sign, byte}

abbrev pub invariant-loop-byte : goal.invariant-loop-byte
invariant-loop-byte g l = map as_sign l.signs.items ≡ map byte (take l.byte-index l.folder)
