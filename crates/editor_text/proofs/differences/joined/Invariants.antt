use Rattle.std.proofs.Common.{◌+◌, ◌-◌, length}
use Rattle.editor_text.proofs.differences.joined.Given as goal
use Rattle.editor_text.specs.Finding.{IsStep}

abbrev pub invariant-loop-step : goal.invariant-loop-step
invariant-loop-step l = IsStep l.fn.old l.fn.new l.from l.to l.step

abbrev pub decreases-loop-step : goal.decreases-loop-step
decreases-loop-step l = (length l.fn.old - l.step.end) + (length l.fn.new - l.step.text_end)
