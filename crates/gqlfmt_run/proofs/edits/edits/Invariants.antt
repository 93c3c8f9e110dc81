use Rattle.std.proofs.Common.{◌+◌, ◌-◌, ◌≤◌, length}
use Rattle.gqlfmt_run.proofs.edits.edits.Given as goal

abbrev pub invariant-loop-i : goal.invariant-loop-i
invariant-loop-i g l = (l.i ≤ length l.old) × (l.j ≤ length l.new)

abbrev pub decreases-loop-i : goal.decreases-loop-i
decreases-loop-i g l = (length l.old - l.i) + (length l.new - l.j)
