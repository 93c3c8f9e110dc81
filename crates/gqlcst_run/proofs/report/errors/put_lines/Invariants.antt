use Rattle.std.proofs.Common.{take}
use Rattle.apollo_parser.specs.Errors.{error_of}
use Rattle.gqlcst_run.proofs.report.errors.put_lines.Given as goal
use Rattle.gqlcst_run.specs.Buffering.{PutsSome}
use Rattle.gqlcst_run.specs.Rendering.{AreLines, IsErrorForm}

abbrev pub invariant-loop-error : goal.invariant-loop-error
invariant-loop-error g l =
    PutsSome (AreLines (λ e. IsErrorForm (error_of e)) (take l.error-index l.errors))
    (l.initial.buffer, g.W.Sink.account l.initial.writer)
    (l.buffer, g.W.Sink.account l.writer)
