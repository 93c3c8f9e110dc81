use Rattle.marked_lines.specs.Places.{BeginsWith}
use Rattle.gqlcheck_run.proofs.json_lines.operation_lines.Given as goal

abbrev pub invariant-loop-operation : goal.invariant-loop-operation
invariant-loop-operation g l = BeginsWith l.lines.items l.initial.lines.items
