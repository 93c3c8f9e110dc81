use Rattle.gqlcst_run.proofs.output_buffer.OutputBuffer.put_any_escaped.Given as goal
use Rattle.gqlcst_run.specs.Buffering.{PutsAny}

abbrev pub invariant-loop-character : goal.invariant-loop-character
invariant-loop-character g l =
    PutsAny (l.initial.self, g.W.Sink.account l.initial.writer) (l.self, g.W.Sink.account l.writer)
