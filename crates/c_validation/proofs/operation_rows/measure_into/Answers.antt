use Rattle.std.proofs.Common.{◌≡◌, ◌∙◌, List, ap, length, map, subst, [], ◌∷◌}
use Rattle.apollo_tree.specs.Order.{Place}
use Rattle.apollo_parser.specs.Filled.{filled}
use Rattle.validation_names.specs.Definitions.{defined}
use Rattle.cost_limits.specs.Measures.{AreMeasures, IsMeasureError, Measure, as_measure, everything}
use Rattle.c_validation.proofs.Outcomes.{no-measure, of-fault, of-figures}
use Rattle.c_validation.proofs.operation_rows.measure_into.Goals as goal
use Rattle.c_validation.specs.Outcomes.{no_memory, root}
use Rattle.c_validation.specs.Rows.{operation_row}
use Rattle.c_validation.specs.declared.rows.OperationRow.{OperationRow}

pub returns-in-Err : goal.returns-in-Err
returns-in-Err g c = no-measure _ _ _ c.in-Err.status _ c.refused.result c.refused.ensures c.in-Err.ensures.refusal

pub returns-in-Err-measure_document : goal.returns-in-Err-measure_document
returns-in-Err-measure_document g c =
    of-fault _ _ _ c.in-Ok.tree c.in-Err-measure_document.error _ c.fault.result c.in-Ok.ensures.document
    (subst (λ (p : Place). IsMeasureError everything (defined (p ∷ [])) c.in-Err-measure_document.error)
    c.root.ensures.place
    c.in-Err-measure_document.ensures.error) c.fault.ensures

pub returns-in_default : goal.returns-in_default
returns-in_default g c = no-measure _ _ _ _ _ c.refused-in_default.result c.refused-in_default.ensures no_memory

pub returns : goal.returns
returns g c =
    let rows : c.as_slice-rows.result.now ≡ map operation_row (map as_measure c.in-Ok-measure_document.measured.items) =
    c.as_slice-rows.ensures.value ∙ c.in-Ok-rows_of.ensures
    ∙ ap (λ xs. map operation_row (map as_measure xs)) c.as_slice.ensures.value in
    let measures : List Measure = map as_measure c.in-Ok-measure_document.measured.items in
    let are : AreMeasures everything (defined (root c.in-Ok.tree ∷ [])) measures =
    subst (λ (p : Place). AreMeasures everything (defined (p ∷ [])) measures) c.root.ensures.place
    c.in-Ok-measure_document.ensures.figures in
    rw c.refused-2.ensures (of-figures _ _ _ c.in-Ok.tree measures c.args.operations.now c.write.new.buffer
    (length c.as_slice-rows.result.now) c.in-Ok.ensures.document are
    (c.write.ensures ∙ ap (λ (xs : List OperationRow). filled c.args.operations.now xs) rows)
    (ap (λ (xs : List OperationRow). length xs) rows))
