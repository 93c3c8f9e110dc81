use Rattle.std.proofs.Common.{◌++◌, ◌∷◌, [], ◌∙◌, List, ap, append_assoc, append-nil, arith, get_or, refl, subst}
use Rattle.std.proofs.Common.{sym, take, take_all}
use Rattle.std.proofs.lemmas.List.{map_more}
use Rattle.validation_names.specs.Sites.{Located, as_located}
use Rattle.query_validation.specs.declared.violations.QueryViolation.{QueryViolation}
use Rattle.document_checks.proofs.Passing.{place_more}
use Rattle.document_checks.proofs.schema_rules.add_violations.Goals as goal
use Rattle.document_checks.specs.Documents.{AreJudged, numbers_of}
use Rattle.document_checks.specs.Passing.{IsWithout}
use Rattle.document_checks.specs.Schemas.{query_sites}
use Rattle.document_checks.specs.declared.report.Report.{Report}

pub loop-violation-init : goal.loop-violation-init
loop-violation-init c = λ sites begun judged.
    subst (λ (ss : List Located). AreJudged (IsWithout (numbers_of c.args.documents.now) ss) begun c.args.reports.now)
    (sym (append-nil sites)) judged

pub loop-violation-preserved : goal.loop-violation-preserved
loop-violation-preserved c = λ sites begun judged.
    let violation = c.violation-item.result in
    let at : QueryViolation → Located = λ v. as_located v.site in
    let front : List Located = query_sites (take c.loop-violation.violation-index c.args.violations.now) in
    let k = c.text_of-text.result in
    place_more (numbers_of c.args.documents.now) begun c.loop-violation.reports _ k
    (get_or c.loop-violation.reports k c.index-reports-text.result) c.add_violation.new.report (sites ++ front) _
    (at violation) c.text_of-text.ensures (omega (arith, c.requires violation.site.document))
    (ap (λ (r : Report). get_or c.loop-violation.reports k r) c.index-reports-text.is) refl
    (ap (λ (ss : List Located). sites ++ ss)
    (map_more at c.args.violations.now c.loop-violation.violation-index violation c.loop-violation-test.true
    ∙ ap (λ (v : QueryViolation). front ++ at v ∷ []) (sym c.violation-item.is))
    ∙ sym (append_assoc sites front (at violation ∷ [])))
    c.in_ok-add_violation.ensures.passes c.in_ok-add_violation.ensures.found
    (c.loop-violation.invariant sites begun judged)

pub returns : goal.returns
returns c = λ sites begun judged.
    subst
    (λ (vs : List QueryViolation). AreJudged
    (IsWithout (numbers_of c.args.documents.now) (sites ++ query_sites vs)) begun c.loop-violation.reports)
    (take_all c.loop-violation.violation-index c.args.violations.now c.loop-violation-test.false)
    (c.loop-violation.invariant sites begun judged)
