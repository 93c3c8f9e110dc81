use Rattle.std.proofs.Common.{◌∙◌, ap, sym}
use Rattle.cost_limits.proofs.Lists.{one_more, none_more}
use Rattle.cost_limits.proofs.measures.operations.Goals as goal
use Rattle.cost_limits.proofs.measures.operations.Goals.{then-is_measured+in_ok-push+in_ok-push-2}
use Rattle.cost_limits.proofs.measures.operations.Goals.{else-is_measured}

pub loop-number-preserved : goal.loop-number-preserved
loop-number-preserved g c =
    let vs = c.args.definitions.now in
    let n = c.loop-number.number in
    let v = c.index-definitions-number.result in
    let i = c.loop-number.invariant in
    elim c.if-is_measured.branch [
      | then-is_measured+in_ok-push+in_ok-push-2 w ↦
          let l = one_more c.args.measured vs n v c.loop-number-test.true c.index-definitions-number.is
          c.loop-number.operations.items c.if-is_measured.operations.items
          c.loop-number.numbers.items c.if-is_measured.numbers.items
          (sym w.if-is_measured.true ∙ c.is_measured.ensures) i.operations_are i.numbers_are
          (ap (λ v. v.items) w.operations-is ∙ w.in_ok-push.ensures.items)
          (ap (λ v. v.items) w.numbers-is ∙ w.in_ok-push-2.ensures.items) in
          record { operations_are = l.operations_are; numbers_are = l.numbers_are }
      | else-is_measured w ↦
          let l = none_more c.args.measured vs n v c.loop-number-test.true c.index-definitions-number.is
          c.loop-number.operations.items c.if-is_measured.operations.items
          c.loop-number.numbers.items c.if-is_measured.numbers.items
          (sym w.if-is_measured.false ∙ c.is_measured.ensures)
          i.operations_are i.numbers_are
          (ap (λ v. v.items) w.operations-is) (ap (λ v. v.items) w.numbers-is) in
          record { operations_are = l.operations_are; numbers_are = l.numbers_are }
    ]
