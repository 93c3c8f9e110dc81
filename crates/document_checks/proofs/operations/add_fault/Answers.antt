use Rattle.std.proofs.Common.{◌<◌, ap, arith, get_or, length, refl}
use Rattle.std.proofs.Math.ListN.{length-set}
use Rattle.document_checks.proofs.Passing.{alone}
use Rattle.document_checks.proofs.operations.add_fault.Goals as goal
use Rattle.document_checks.specs.declared.report.Report.{Report}

-- the text of the place alone does not pass
pub returns-clause-failed : goal.returns-clause-failed
returns-clause-failed c =
    let text = c.text_of-text.result in
    let inside : text < length c.args.reports.now =
    omega (arith, c.requires.inside c.in_ok-span.span.document) in
    λ limited. (
      text,
      omega (arith, inside, length-set {A = Report}),
      alone c.args.reports.now _ text (get_or c.args.reports.now text c.index-reports-text.result) c.add.new.self
          inside c.requires.passing (ap (λ (r : Report). get_or c.args.reports.now text r) c.index-reports-text.is)
          refl c.in_ok-add.ensures.passes c.in_ok-add.ensures.found,
    )
