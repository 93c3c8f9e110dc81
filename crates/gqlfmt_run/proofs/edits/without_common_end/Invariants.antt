use Rattle.std.proofs.Common.{◌+◌, ◌<◌, ◌≤◌, length}
use Rattle.gqlfmt_run.proofs.edits.without_common_end.Given as goal

abbrev pub invariant-loop-removed : goal.invariant-loop-removed
invariant-loop-removed l = (l.removed ≤ length l.old) × (l.added ≤ length l.new) × (0 < l.removed + l.added)

abbrev pub decreases-loop-removed : goal.decreases-loop-removed
decreases-loop-removed l = l.removed
