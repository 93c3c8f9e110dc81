use Rattle.std.proofs.Common.{ℕ, List, arith, length, min, subst}
use Rattle.marked_lines.proofs.Fronts.{of_first_more}
use Rattle.document_checks.specs.declared.report.Finding.{Finding}
use Rattle.gqlcheck_run.proofs.Beginnings.{result_kept}
use Rattle.gqlcheck_run.proofs.sarif_results.finding_lines.Goals as goal
use Rattle.gqlcheck_run.specs.Places.{BeginsWithResult}

pub loop-finding-preserved : goal.loop-finding-preserved
loop-finding-preserved g c =
    let uri : List ℕ = c.args.uri.now in
    let source : List ℕ = c.args.source.now in
    let old : List ℕ = c.loop-finding.lines.items in
    let new : List ℕ = c.in_ok-lines.lines.items in (
      λ none. absurd (omega (arith, none)),
      of_first_more (λ (f : Finding) (output : List ℕ). BeginsWithResult uri source (min f.start (length source))
          output) c.args.findings.now
          c.loop-finding.finding-index c.finding-item.result old new c.loop-finding-test.true c.loop-finding.invariant.0
          c.loop-finding.invariant.1
          (λ f. result_kept uri source (min f.start (length source)) old new c.in_ok-lines.ensures.grows)
          (λ empty. subst (λ (f : Finding). BeginsWithResult uri source (min f.start (length source)) new)
          c.finding-item.is
          (c.in_ok-lines.ensures.first empty)),
    )
