use Rattle.std.proofs.Common.{◌≡◌, ◌-◌, false}
use Rattle.std.specs.Prelude.{option_map}
use Rattle.ignore_rules.proofs.signs.read_ranges.Given as goal
use Rattle.ignore_rules.specs.Reading.{joined, ranges_in}

abbrev pub invariant-loop-done : goal.invariant-loop-done
invariant-loop-done g l =
    option_map (joined l.initial.ranges.items) (ranges_in l.most false l.text)
    ≡ option_map (joined l.ranges.items) (ranges_in (l.most - l.done) l.closes l.rest)
