use Rattle.std.proofs.Common.{◌≡◌, ◌++◌, ◌-◌, length, map}
use Rattle.ignore_rules.proofs.signs.read_signs.Given as goal
use Rattle.ignore_rules.specs.Fits.{as_sign}
use Rattle.ignore_rules.specs.Reading.{signs_in, signs_of}

abbrev pub invariant-loop-done : goal.invariant-loop-done
invariant-loop-done g l =
    map as_sign l.initial.signs.items ++ signs_of l.text
    ≡ map as_sign l.signs.items ++ signs_in (length l.text - l.done) l.begins l.rest
