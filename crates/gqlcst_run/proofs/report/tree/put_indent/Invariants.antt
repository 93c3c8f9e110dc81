use Rattle.gqlcst_run.proofs.report.tree.put_indent.Given as goal
use Rattle.gqlcst_run.specs.Buffering.{PutsAny}

abbrev pub invariant-loop-left : goal.invariant-loop-left
invariant-loop-left g l =
    PutsAny (l.initial.buffer, g.W.Sink.account l.initial.writer) (l.buffer, g.W.Sink.account l.writer)

abbrev pub decreases-loop-left : goal.decreases-loop-left
decreases-loop-left g l = l.left
