use Rattle.std.proofs.Common.{◌++◌, ◌∷◌, [], ◌∙◌, List, ap, arith, get_or, refl, sym, take}
use Rattle.std.proofs.lemmas.List.{map_more}
use Rattle.validation_names.specs.Sites.{Located, as_located}
use Rattle.validation_rules.specs.declared.violations.Violation.{Violation}
use Rattle.document_checks.proofs.Passing.{place_more}
use Rattle.document_checks.proofs.violations.add_violations.Goals as goal
use Rattle.document_checks.specs.Documents.{numbers_of}
use Rattle.document_checks.specs.Passing.{violation_sites}
use Rattle.document_checks.specs.declared.report.Report.{Report}

pub loop-violation-preserved : goal.loop-violation-preserved
loop-violation-preserved c =
    let violation = c.violation-item.result in
    let at : Violation → Located = λ v. as_located v.site in
    let front : List Located = violation_sites (take c.loop-violation.violation-index c.args.violations.now) in
    let k = c.text_of-text.result in
    place_more (numbers_of c.args.documents.now) c.args.reports.now c.loop-violation.reports _ k
    (get_or c.loop-violation.reports k c.index-reports-text.result) c.add_violation.new.report front _ (at violation)
    c.text_of-text.ensures (omega (arith, c.requires.inside violation.site.document))
    (ap (λ (r : Report). get_or c.loop-violation.reports k r) c.index-reports-text.is) refl
    (map_more at c.args.violations.now c.loop-violation.violation-index violation c.loop-violation-test.true
    ∙ ap (λ (v : Violation). front ++ at v ∷ []) (sym c.violation-item.is))
    c.in_ok-add_violation.ensures.passes c.in_ok-add_violation.ensures.found c.loop-violation.invariant
