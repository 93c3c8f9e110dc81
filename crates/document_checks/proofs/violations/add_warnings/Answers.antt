use Rattle.std.proofs.Common.{◌++◌, ◌∷◌, [], ◌∙◌, List, ap, arith, get_or, refl, sym, take}
use Rattle.std.proofs.lemmas.List.{map_more}
use Rattle.validation_names.specs.Sites.{Located, as_located}
use Rattle.validation_rules.specs.declared.violations.Violation.{Violation}
use Rattle.document_checks.proofs.Passing.{told_more, told_nothing}
use Rattle.document_checks.proofs.violations.add_warnings.Goals as goal
use Rattle.document_checks.specs.Documents.{numbers_of}
use Rattle.document_checks.specs.Passing.{violation_sites}
use Rattle.document_checks.specs.declared.report.Report.{Report}

pub loop-warning-init : goal.loop-warning-init
loop-warning-init c = told_nothing (numbers_of c.args.documents.now) c.args.reports.now

pub loop-warning-preserved : goal.loop-warning-preserved
loop-warning-preserved c =
    let warning = c.warning-item.result in
    let at : Violation → Located = λ v. as_located v.site in
    let front : List Located = violation_sites (take c.loop-warning.warning-index c.args.violations.now) in
    let k = c.text_of-text.result in
    told_more (numbers_of c.args.documents.now) c.args.reports.now c.loop-warning.reports _ k
    (get_or c.loop-warning.reports k c.index-reports-text.result) c.add_warning.new.report front _ (at warning)
    c.text_of-text.ensures (omega (arith, c.requires warning.site.document))
    (ap (λ (r : Report). get_or c.loop-warning.reports k r) c.index-reports-text.is) refl
    (map_more at c.args.violations.now c.loop-warning.warning-index warning c.loop-warning-test.true
    ∙ ap (λ (v : Violation). front ++ at v ∷ []) (sym c.warning-item.is))
    c.in_ok-add_warning.ensures.passes c.in_ok-add_warning.ensures.found c.in_ok-add_warning.ensures.some
    c.loop-warning.invariant
