use Rattle.std.proofs.Common.{◌-◌, ◌≤◌, length}
use Rattle.apollo_lexer.proofs.LaneRuns.{RunsOn}
use Rattle.apollo_lexer.proofs.classes.long_run_len.Given as goal

abbrev pub invariant-loop-n : goal.invariant-loop-n
invariant-loop-n g l = record { within : l.n ≤ length l.bytes; so_far : RunsOn g.C.ByteClass.class l.bytes l.n }

abbrev pub decreases-loop-n : goal.decreases-loop-n
decreases-loop-n g l = length l.bytes - l.n
