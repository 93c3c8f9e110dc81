use Rattle.apollo_parser.specs.LexerAnswers.{answers_left}
use Rattle.gqlcst_run.proofs.Items.{ArePrinted}
use Rattle.gqlcst_run.proofs.report.tokens.put_tokens.Given as goal
use Rattle.gqlcst_run.specs.Buffering.{PutsSome}

abbrev pub invariant-loop-item : goal.invariant-loop-item
invariant-loop-item g l =
    PutsSome (ArePrinted (answers_left l.initial.item-iterator) (answers_left l.item-iterator) l.errors)
    (l.initial.buffer, g.W.Sink.account l.initial.writer)
    (l.buffer, g.W.Sink.account l.writer)
