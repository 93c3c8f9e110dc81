use Rattle.std.proofs.Common.{◌+◌, ◌-◌, length}
use Rattle.editor_text.proofs.SoFar.{AreSoFar}
use Rattle.editor_text.proofs.differences.edits.Given as goal

abbrev pub invariant-loop-line : goal.invariant-loop-line
invariant-loop-line l = AreSoFar l.fn.old l.fn.new l.from l.to l.edits.items

abbrev pub decreases-loop-line : goal.decreases-loop-line
decreases-loop-line l = (length l.fn.old - l.from) + (length l.fn.new - l.to)
