use Rattle.std.specs.Prelude.{string_bytes}
use Rattle.marked_lines.specs.Places.{BeginsWith}
use Rattle.gqlcheck_run.proofs.report.push_operations.Given as goal

abbrev pub invariant-loop-operation : goal.invariant-loop-operation
invariant-loop-operation g l = BeginsWith (string_bytes l.text) (string_bytes l.fn.text)
