use Rattle.std.proofs.Common.{sym, ◌∙◌, ap, arith}
use Rattle.parser_rules.specs.State.{ignored}
use Rattle.parser_state.proofs.Lookahead.{looked-found, looked-ignored, looked-end, bad-counted}
use Rattle.parser_state.proofs.Reading.{second-found, second-ignored, second-bad, second-end, one-less}
use Rattle.parser_state.proofs.state.reader.next_significant.Goals as goal

pub loop-answer-smaller-else-is_none : goal.loop-answer-smaller-else-is_none
loop-answer-smaller-else-is_none c = one-less _ _ _ c.in-Some.ensures.answers

pub loop-answer-smaller : goal.loop-answer-smaller
loop-answer-smaller c = one-less _ _ _ c.in-Some.ensures.answers

pub loop-answer-preserved-else-is_none : goal.loop-answer-preserved-else-is_none
loop-answer-preserved-else-is_none c =
    let taken = rw c.in-Ok.is at c.in-Some.ensures.answers in
    let is = c.ignored.ensures ∙ ap ignored c.kind.ensures in
    let n = rw c.in-Ok.is at c.in-Some.ensures.count in
    let l = looked-ignored _ _ _ _ _ c.ignored.result taken is c.if-is_none.ensures in
    let i = c.loop-answer.invariant.1 in (
      c.loop-answer.invariant.0
          ∙ second-ignored _ _ _ _ _ c.ignored.result taken is c.if-is_none.ensures,
      omega (arith, n, l, i),
    )

pub loop-answer-preserved : goal.loop-answer-preserved
loop-answer-preserved c =
    let taken = rw c.in_default-answer.is at c.in-Some.ensures.answers in
    let n = rw c.in_default-answer.is at c.in-Some.ensures.count in
    let l = bad-counted _ _ _ _ _ _ _ taken n in
    let i = c.loop-answer.invariant.1 in
    (c.loop-answer.invariant.0 ∙ second-bad _ _ _ _ _ taken, omega (arith, l, i))

pub returns-then-is_none : goal.returns-then-is_none
returns-then-is_none c =
    let taken = rw c.in-Ok.is at c.in-Some.ensures.answers in
    let is = c.ignored.ensures ∙ ap ignored c.kind.ensures in
    let n = rw c.in-Ok.is at c.in-Some.ensures.count in
    let l = looked-found _ _ _ _ _ c.ignored.result taken is c.if-is_none.ensures in
    let i = c.loop-answer.invariant.1 in
    record {
      found = sym (c.loop-answer.invariant.0 ∙ second-found _ _ _ _ _ c.ignored.result taken is c.if-is_none.ensures);
      count = omega (arith, n, l, i);
    }

pub returns : goal.returns
returns c =
    let n = c.in_default.ensures.count in
    let l = looked-end _ c.in_default.ensures.answers.0 in
    let i = c.loop-answer.invariant.1 in
    record {
      found = sym (c.loop-answer.invariant.0 ∙ second-end _ c.in_default.ensures.answers.0);
      count = omega (arith, n, l, i);
    }
