use Rattle.std.proofs.Common.{arith, rules, ◌≡◌, ◌<◌, true, subst, length}
use Rattle.std.proofs.lemmas.List.{take_all}
use Rattle.std.proofs.lemmas.List.Elements.{All-more}
use Rattle.std.specs.List.{All}
use Rattle.c_parsing.proofs.errors.ends_fit.Goals as goal
use Rattle.c_parsing.specs.Rows.{EndFits}

pub loop-error-preserved : goal.loop-error-preserved
loop-error-preserved g c =
    let here : c.loop-error.error-index < length c.args.errors.now = omega arith in
    let fits : c.end_fits.result ≡ true = search rules in
    All-more EndFits c.args.errors.now c.loop-error.error-index c.error-item.result here c.loop-error.invariant
    (subst EndFits c.error-item.is (c.end_fits.ensures fits))

pub returns : goal.returns
returns g c = λ _. subst (All EndFits) (take_all c.loop-error.error-index c.args.errors.now (omega arith))
    c.loop-error.invariant
