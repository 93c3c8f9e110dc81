use Rattle.gqlcst_run.proofs.report.tree.put_error_lines.Given as goal
use Rattle.gqlcst_run.specs.Buffering.{PutsAny}

abbrev pub invariant-loop-error : goal.invariant-loop-error
invariant-loop-error g l =
    PutsAny (l.initial.buffer, g.W.Sink.account l.initial.writer) (l.buffer, g.W.Sink.account l.writer)
