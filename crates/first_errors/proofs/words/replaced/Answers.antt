use Rattle.std.proofs.Common.{inr, sym, subst}
use Rattle.std.proofs.lemmas.List.{drop_more}
use Rattle.first_errors.proofs.words.replaced.Goals as goal
use Rattle.first_errors.specs.Words.{IsReplaced}

pub loop-row-preserved : goal.loop-row-preserved
loop-row-preserved c = λ shown h.
    c.loop-row.invariant shown
    (subst (λ rows. IsReplaced (λ row. row.0.now) (λ row. row.1.now) rows c.args.message.now shown)
    (sym (drop_more c.args.rows.now c.loop-row.row-index _ c.loop-row-test.true)) (inr (c.in_default.ensures.cases, h)))
