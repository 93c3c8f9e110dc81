use Rattle.std.proofs.Common.{◌∙◌}
use Rattle.std.proofs.lemmas.Result.{IfOk-weaker}
use Rattle.gqlcheck_run.proofs.Lines.{grown, json_place_line}
use Rattle.gqlcheck_run.proofs.Members.{both}
use Rattle.gqlcheck_run.proofs.json_lines.finding_line.Goals as goal

pub returns-clause-first : goal.returns-clause-first
returns-clause-first g c = IfOk-weaker c.lines_of.result _ _ (λ it ended empty.
    json_place_line c.args.name.now c.args.source.now c.args.lines.items it.items c.part_between-part.result.start _ _
    _ _
    c.in_ok-out.ensures.before c.in_ok-out.ensures.tokens c.in_ok-put_position.ensures.adds
    (both _ _ _ c.in_ok-put_extent.ensures c.in_ok-put_finding.ensures) ended c.part_between-part.ensures.start empty)
    c.lines_of.ensures

pub returns-clause-grows : goal.returns-clause-grows
returns-clause-grows g c = IfOk-weaker c.lines_of.result _ _ (λ it ended.
    grown _ c.args.lines.items it.items
    (c.in_ok-put_finding.ensures.adds.before ∙ c.in_ok-put_extent.ensures.adds.before
    ∙ c.in_ok-put_position.ensures.adds.before
    ∙ c.in_ok-out.ensures.before) ended) c.lines_of.ensures
