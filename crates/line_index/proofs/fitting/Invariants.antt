use Rattle.std.proofs.Common.{◌≡◌, ◌+◌, take}
use Rattle.line_index.proofs.fitting.Given as goal
use Rattle.line_index.specs.Columns.{utf16_len}

abbrev pub invariant-loop-offset : goal.invariant-loop-offset
invariant-loop-offset l = l.left + utf16_len (take l.offset l.bytes) ≡ l.room
