use Rattle.std.proofs.Common.{◌∙◌, true}
use Rattle.std.proofs.lemmas.Result.{IfOk-weaker}
use Rattle.gqlcheck_run.proofs.Lines.{grown_after}
use Rattle.gqlcheck_run.proofs.sarif_results.more_line.Goals as goal
use Rattle.gqlcheck_run.specs.SarifResults.{separator}

pub returns : goal.returns
returns g c = IfOk-weaker c.lines_of.result _ _ (λ it ended.
    grown_after _ c.args.lines.items (separator true) it.items
    (c.in_ok-put_words.ensures.adds.before ∙ c.in_ok-put_locations.ensures.1.before ∙ c.in_ok-out.ensures.before
    ∙ c.in_ok-lines.ensures) ended)
    c.lines_of.ensures
