use Rattle.std.proofs.Common.{length}
use Rattle.gqlcst_run.proofs.Quoting.{IsPartWritten}
use Rattle.gqlcst_run.proofs.output_buffer.OutputBuffer.put_ascii_escaped.Given as goal

abbrev pub invariant-loop-rest : goal.invariant-loop-rest
invariant-loop-rest g l =
    IsPartWritten l.fn.bytes l.rest (l.initial.self, g.W.Sink.account l.initial.writer)
    (l.self, g.W.Sink.account l.writer)

abbrev pub decreases-loop-rest : goal.decreases-loop-rest
decreases-loop-rest g l = length l.rest
