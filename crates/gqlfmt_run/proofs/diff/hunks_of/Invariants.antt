use Rattle.std.proofs.Common.{length}
use Rattle.gqlfmt_run.proofs.diff.hunks_of.Given as goal

abbrev pub decreases-loop-left : goal.decreases-loop-left
decreases-loop-left g l = length l.left
