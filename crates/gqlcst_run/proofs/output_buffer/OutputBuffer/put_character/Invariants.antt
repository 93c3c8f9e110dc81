use Rattle.gqlcst_run.proofs.output_buffer.OutputBuffer.put_character.Given as goal
use Rattle.gqlcst_run.specs.Buffering.{PutsAny}

abbrev pub invariant-loop-part : goal.invariant-loop-part
invariant-loop-part g l =
    PutsAny (l.initial.self, g.W.Sink.account l.initial.writer) (l.self, g.W.Sink.account l.writer)
