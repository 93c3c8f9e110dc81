use Rattle.std.proofs.Common.{◌≡◌, true, refl, subst}
use Rattle.std.proofs.lemmas.List.{take_all}
use Rattle.std.proofs.lemmas.List.Elements.{All-more}
use Rattle.document_checks.proofs.documents.all_pass.Goals as goal
use Rattle.document_checks.specs.Documents.{AllPass}
use Rattle.document_checks.specs.declared.report.Report.{Report}

pub loop-report-preserved : goal.loop-report-preserved
loop-report-preserved c =
    All-more (λ (r : Report). r.passes ≡ true) c.args.reports.now c.loop-report.report-index c.report-item.result
    c.loop-report-test.true c.loop-report.invariant
    (subst (λ (r : Report). r.passes ≡ true) c.report-item.is c.if-not-report.false)

pub returns : goal.returns
returns c = (
  λ yes. subst AllPass (take_all c.loop-report.report-index c.args.reports.now c.loop-report-test.false)
      c.loop-report.invariant,
  λ all. refl,
)
