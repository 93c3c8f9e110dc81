use Rattle.std.proofs.Common.{◌≡◌, ◌+◌, length}
use Rattle.parser_rules.specs.State.{second}
use Rattle.apollo_lexer.specs.Answers.{answers_left}
use Rattle.parser_state.proofs.state.reader.next_significant.Given as goal
use Rattle.parser_state.specs.Lookahead.{looked}

abbrev pub invariant-loop-answer : goal.invariant-loop-answer
invariant-loop-answer l =
    (second (answers_left l.initial.lexer) ≡ second (answers_left l.lexer))
    × (l.initial.steps.value + looked (answers_left l.initial.lexer) ≡ l.steps.value + looked (answers_left l.lexer))

abbrev pub decreases-loop-answer : goal.decreases-loop-answer
decreases-loop-answer l = length (answers_left l.lexer)
