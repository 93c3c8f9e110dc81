use Rattle.std.proofs.Common.{◌≡◌, length, take}
use Rattle.c_parsing.proofs.errors.message_bytes.Given as goal
use Rattle.c_parsing.specs.Rows.{messages}

abbrev pub invariant-loop-error : goal.invariant-loop-error
invariant-loop-error g l = l.bytes ≡ length (messages (take l.error-index l.errors))
