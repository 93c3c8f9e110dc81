use Rattle.std.proofs.Common.{◌++◌, ◌∷◌, [], ◌∙◌, List, ap, arith, get_or, map, refl, sym, take}
use Rattle.std.proofs.lemmas.List.{map_more}
use Rattle.cost_limits.specs.Measures.{Measure, as_measure}
use Rattle.cost_limits.specs.declared.measures.OperationFigures.{OperationFigures}
use Rattle.document_checks.proofs.Passing.{operation_more}
use Rattle.document_checks.proofs.operations.add_operations.Goals as goal
use Rattle.document_checks.specs.Documents.{numbers_of}
use Rattle.document_checks.specs.declared.report.Report.{Report}

pub loop-measured-preserved : goal.loop-measured-preserved
loop-measured-preserved c =
    let measured = c.measured-item.result in
    let k = c.text_of-text.result in
    let front : List Measure = map as_measure (take c.loop-measured.measured-index c.args.operations.now) in
    operation_more (numbers_of c.args.documents.now) c.args.checks.now.most c.args.reports.now c.loop-measured.reports _
    k (get_or c.loop-measured.reports k c.index-reports-text.result) c.add_operation.new.report front _
    (as_measure measured) c.text_of-text.ensures
    (omega (arith, c.requires.inside measured.operation.site.document))
    (ap (λ (r : Report). get_or c.loop-measured.reports k r) c.index-reports-text.is) refl
    (map_more as_measure c.args.operations.now c.loop-measured.measured-index measured c.loop-measured-test.true
    ∙ ap (λ (m : OperationFigures). front ++ as_measure m ∷ []) (sym c.measured-item.is))
    c.in_ok-add_operation.ensures.passes c.in_ok-add_operation.ensures.found c.loop-measured.invariant
