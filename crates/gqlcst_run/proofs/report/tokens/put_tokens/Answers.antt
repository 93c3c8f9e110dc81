use Rattle.std.proofs.Common.{◌∙◌, ap, arith, length, refl}
use Rattle.apollo_parser.specs.LexerAnswers.{answers_left}
use Rattle.gqlcst_run.proofs.Items.{none_put, errors-within, item_put, all-printed}
use Rattle.gqlcst_run.proofs.report.tokens.put_tokens.Goals as goal
use Rattle.gqlcst_run.specs.Parsing.{finding_of}

pub loop-item-init : goal.loop-item-init
loop-item-init g c = none_put _ _

pub overflow_add-errors : goal.overflow_add-errors
overflow_add-errors g c =
    let fewer = errors-within _ _ _ _ _ c.put_item-errors.result _ _ c.loop-item.invariant
    c.in-Some.ensures.steps.answers c.put_item-errors.ensures.count in
    omega (
      arith,
      fewer,
      c.answers_fit.ensures,
      ap length (ap answers_left c.into_iter-item-iterator.ensures.into_iter_gives),
    )

pub loop-item-preserved : goal.loop-item-preserved
loop-item-preserved g c =
    item_put _ _ _ _ _ c.put_item-errors.result _ _ _ _ _ c.loop-item.invariant c.in-Some.ensures.steps.answers
    c.put_item-errors.ensures.puts c.put_str.ensures
    c.put_item-errors.ensures.count refl

pub returns-clause-lines : goal.returns-clause-lines
returns-clause-lines g c =
    let before = c.loop-item.invariant in
    let all = all-printed _ _ _ _ before.output (ap answers_left c.into_iter-item-iterator.ensures.into_iter_gives)
    c.in-None.ensures.steps.answers.0
    before.made in
    record { output = before.output; made = all.0; puts = before.puts }

pub returns-clause-finding : goal.returns-clause-finding
returns-clause-finding g c =
    let before = c.loop-item.invariant in
    let all = all-printed _ _ _ _ before.output (ap answers_left c.into_iter-item-iterator.ensures.into_iter_gives)
    c.in-None.ensures.steps.answers.0
    before.made in
    c.finding_of.ensures ∙ ap finding_of all.1
