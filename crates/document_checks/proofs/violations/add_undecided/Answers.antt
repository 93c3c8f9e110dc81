use Rattle.std.proofs.Common.{◌++◌, ◌∷◌, [], ap, arith, get_or, refl}
use Rattle.validation_names.specs.Sites.{as_located}
use Rattle.document_checks.proofs.Passing.{place_more}
use Rattle.document_checks.proofs.violations.add_undecided.Goals as goal
use Rattle.document_checks.specs.Documents.{numbers_of}
use Rattle.document_checks.specs.declared.report.Report.{Report}

pub returns : goal.returns
returns c = λ sites begun judged.
    let k = c.text_of-text.result in
    place_more (numbers_of c.args.documents.now) begun c.args.reports.now _ k
    (get_or c.args.reports.now k c.index-reports-text.result) c.add_undecided_to.new.report sites
    (sites ++ as_located c.args.operation ∷ []) (as_located c.args.operation) c.text_of-text.ensures
    (omega (arith, c.requires c.args.operation.document))
    (ap (λ (r : Report). get_or c.args.reports.now k r) c.index-reports-text.is) refl refl
    c.in_ok-add_undecided_to.ensures.passes c.in_ok-add_undecided_to.ensures.found judged
