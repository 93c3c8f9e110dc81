use Rattle.std.proofs.Common.{sym, ◌∙◌, ap, arith, length, List, ℕ}
use Rattle.parser_rules.specs.State.{wait}
use Rattle.parser_state.proofs.Lengths.{without-current}
use Rattle.parser_state.proofs.Reading.{read_bad, read-ignored, read-token, read_end}
use Rattle.parser_state.proofs.state.ParserState.read_on.Goals as goal

pub push_lex_error-requires : goal.push_lex_error-requires
push_lex_error-requires g c = rw c.in-Bad.is at (rw c.in-Some.is at c.next_answer.ensures.len)

pub wait-requires : goal.wait-requires
wait-requires g c =
    let n = rw c.in-Ignored.is at (rw c.in-Some.is at c.next_answer.ensures.len) in
    omega (arith, n, ap {A = List ℕ} length c.«data».ensures)

pub set_current-requires-clause-len : goal.set_current-requires-clause-len
set_current-requires-clause-len g c = without-current (length c.in-Significant.token.text.now) c.next_answer.new.self
    (rw c.in-Significant.is at (rw c.in-Some.is at c.next_answer.ensures.len))

pub set_current-requires-2-clause-len : goal.set_current-requires-2-clause-len
set_current-requires-2-clause-len g c = without-current 0 c.next_answer.new.self c.in_default.ensures.len

pub loop-answer-preserved-in-Continue-1 : goal.loop-answer-preserved-in-Continue-1
loop-answer-preserved-in-Continue-1 g c = (
  c.loop-answer.invariant.0
      ∙ read_bad _ c.next_answer.new.self _ c.in-Bad.error.is_limit c.in-Bad.error.text.now c.in-Bad.error.index
      (rw c.in-Bad.is at (rw c.in-Some.is at c.next_answer.ensures.taken)) c.in_ok-push_lex_error-in-Bad.ensures.step,
  c.push_lex_error.ensures.budget ∙ c.next_answer.ensures.budget ∙ c.loop-answer.invariant.1,
)

pub loop-answer-preserved : goal.loop-answer-preserved
loop-answer-preserved g c = (
  c.loop-answer.invariant.0
      ∙ read-ignored _ c.next_answer.new.self _ c.in-Ignored.token.kind c.in-Ignored.token.text.now
      c.in-Ignored.token.index c.in-Ignored.kind
      (rw c.in-Ignored.is at (rw c.in-Some.is at c.next_answer.ensures.taken))
      (sym (rw c.in-Ignored.is at (rw c.in-Some.is at c.next_answer.ensures.sorted)))
      (c.in_ok-wait-in-Ignored.ensures.step
      ∙ ap {A = List ℕ} (λ t. wait c.in-Ignored.kind t c.next_answer.new.self) c.«data».ensures),
  c.wait.ensures.budget ∙ c.next_answer.ensures.budget ∙ c.loop-answer.invariant.1,
)

pub returns-in-Significant-clause-step : goal.returns-in-Significant-clause-step
returns-in-Significant-clause-step g c =
    c.set_current.ensures.step
    ∙ sym (c.loop-answer.invariant.0 ∙ read-token _ c.next_answer.new.self c.in-Significant.token.kind
    c.in-Significant.token.text.now c.in-Significant.token.index
    (rw c.in-Significant.is at (rw c.in-Some.is at c.next_answer.ensures.taken))
    (sym (rw c.in-Significant.is at (rw c.in-Some.is at c.next_answer.ensures.sorted))))

pub returns-clause-step : goal.returns-clause-step
returns-clause-step g c =
    c.set_current-2.ensures.step
    ∙ sym (c.loop-answer.invariant.0 ∙ read_end _ c.next_answer.new.self c.in_default.ensures.taken)
