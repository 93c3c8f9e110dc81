use Rattle.std.proofs.Common.{◌≡◌, take}
use Rattle.editor_text.proofs.differences.common_front.Given as goal

abbrev pub invariant-loop-i : goal.invariant-loop-i
invariant-loop-i l = take l.i l.old ≡ take l.i l.new
