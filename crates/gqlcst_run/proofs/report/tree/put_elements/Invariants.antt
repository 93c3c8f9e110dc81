use Rattle.gqlcst_run.proofs.report.tree.put_elements.Given as goal
use Rattle.gqlcst_run.specs.Buffering.{PutsAny}

abbrev pub invariant-loop-index : goal.invariant-loop-index
invariant-loop-index g l =
    PutsAny (l.initial.buffer, g.W.Sink.account l.initial.writer) (l.buffer, g.W.Sink.account l.writer)
