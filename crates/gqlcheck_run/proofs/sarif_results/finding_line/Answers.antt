use Rattle.std.proofs.Common.{◌∙◌}
use Rattle.std.proofs.lemmas.Result.{IfOk-weaker}
use Rattle.gqlcheck_run.proofs.Lines.{grown_after, result_line}
use Rattle.gqlcheck_run.proofs.Members.{both}
use Rattle.gqlcheck_run.proofs.sarif_results.finding_line.Goals as goal
use Rattle.gqlcheck_run.specs.SarifResults.{separator}

pub returns-clause-first : goal.returns-clause-first
returns-clause-first g c = IfOk-weaker c.lines_of.result _ _ (λ it ended empty.
    result_line c.args.uri.now c.args.source.now c.args.lines.items it.items c.args.follows
    c.in_ok-put_locations.ensures.0 c.part_between-part.result.start
    _ _ _ _ (c.in_ok-out.ensures.before ∙ c.in_ok-lines.ensures) c.in_ok-out.ensures.tokens
    c.in_ok-put_locations.ensures.1
    (both _ _ _ c.in_ok-put_words.ensures c.in_ok-put_related_locations.ensures) ended c.part_between-part.ensures.start
    empty) c.lines_of.ensures

pub returns-clause-grows : goal.returns-clause-grows
returns-clause-grows g c = IfOk-weaker c.lines_of.result _ _ (λ it ended.
    grown_after _ c.args.lines.items (separator c.args.follows) it.items
    (c.in_ok-put_related_locations.ensures.adds.before ∙ c.in_ok-put_words.ensures.adds.before
    ∙ c.in_ok-put_locations.ensures.1.before
    ∙ c.in_ok-out.ensures.before ∙ c.in_ok-lines.ensures) ended) c.lines_of.ensures
