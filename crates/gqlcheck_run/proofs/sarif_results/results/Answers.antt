use Rattle.std.proofs.Common.{◌∙◌}
use Rattle.gqlcheck_run.proofs.Beginnings.{results_kept}
use Rattle.gqlcheck_run.proofs.sarif_results.results.Goals as goal

pub returns : goal.returns
returns g c =
    results_kept c.args.name.now _ c.args.source.now c.args.report.now.findings.items _ _ _
    (c.as_str.ensures.value ∙ c.in_ok-uri.ensures)
    c.as_slice-findings.ensures.value c.in_ok-lines.ensures c.in_ok-lines-2.ensures
