use Rattle.std.proofs.Common.{◌≡◌, ◌-◌, ◌≤◌, drop, length}
use Rattle.command_lines.proofs.options.plan_of.Given as goal
use Rattle.command_lines.specs.Options.{given_from, nothing_given}
use Rattle.command_lines.specs.Reading.{as_given, as_rows}
use Rattle.command_lines.specs.Words.{texts}

abbrev pub invariant-loop-index : goal.invariant-loop-index
invariant-loop-index g l =
    (l.index ≤ length l.words)
    × (given_from (as_rows l.rows) l.takes_files (as_given l.plan) (texts (drop l.index l.words))
    ≡ given_from (as_rows l.rows) l.takes_files nothing_given (texts l.words))

abbrev pub decreases-loop-index : goal.decreases-loop-index
decreases-loop-index g l = length l.words - l.index
