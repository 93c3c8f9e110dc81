use Rattle.std.proofs.Common.{◌-◌, ◌≤◌, length}
use Rattle.line_index.proofs.line_starts.Given as goal
use Rattle.line_index.specs.LineStarts.{AreStarts}

abbrev pub invariant-loop-next : goal.invariant-loop-next
invariant-loop-next g l = (l.offset ≤ length l.bytes) × AreStarts l.bytes l.offset l.starts.items

abbrev pub decreases-loop-next : goal.decreases-loop-next
decreases-loop-next g l = length l.bytes - l.offset
