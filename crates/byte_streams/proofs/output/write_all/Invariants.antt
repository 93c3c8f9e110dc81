use Rattle.std.proofs.Common.{length}
use Rattle.byte_streams.proofs.output.write_all.Given as goal
use Rattle.byte_streams.specs.Writing.{IsTaken}

abbrev pub invariant-loop-rest : goal.invariant-loop-rest
invariant-loop-rest g l = IsTaken l.fn.bytes l.rest (g.W.Sink.account l.initial.writer) (g.W.Sink.account l.writer)

abbrev pub decreases-loop-rest : goal.decreases-loop-rest
decreases-loop-rest g l = length l.rest
