use Rattle.std.proofs.Common.{◌-◌, ◌+◌, length}
use Rattle.line_index.proofs.first_lines.FirstLines.reach.Given as goal
use Rattle.line_index.specs.LineStarts.{AreFirstStarts}

abbrev pub invariant-loop-self : goal.invariant-loop-self
invariant-loop-self l = AreFirstStarts l.text l.self-inside.starts.items

abbrev pub decreases-loop-self : goal.decreases-loop-self
decreases-loop-self l = l.line + 1 - length l.self-inside.starts.items
