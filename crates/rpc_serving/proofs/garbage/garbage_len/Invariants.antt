use Rattle.std.proofs.Common.{◌-◌, ◌≤◌, length}
use Rattle.rpc_serving.proofs.garbage.garbage_len.Given as goal
use Rattle.rpc_serving.specs.Frames.{AreGarbage}

abbrev pub invariant-loop-passed : goal.invariant-loop-passed
invariant-loop-passed l = AreGarbage l.bytes l.passed × (l.passed ≤ length l.bytes)

abbrev pub decreases-loop-passed : goal.decreases-loop-passed
decreases-loop-passed l = length l.bytes - l.passed
