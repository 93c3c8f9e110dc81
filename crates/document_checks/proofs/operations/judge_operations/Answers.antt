use Rattle.std.proofs.Common.{List, map, subst, sym}
use Rattle.apollo_tree.specs.Order.{Place}
use Rattle.apollo_tree.specs.References.{node_place}
use Rattle.validation_names.specs.Definitions.{defined}
use Rattle.cost_limits.specs.Measures.{AreMeasures, as_measure}
use Rattle.cost_limits.specs.declared.measures.MeasureOptions.{MeasureOptions}
use Rattle.cost_limits.specs.declared.measures.OperationFigures.{OperationFigures}
use Rattle.document_checks.proofs.Passing.{both_clauses, measured, measuring_is, three_clauses, unmeasured}
use Rattle.document_checks.proofs.Verdicts.{no_figures}
use Rattle.document_checks.proofs.operations.judge_operations.Goals as goal
use Rattle.document_checks.specs.Checking.{as_asked, measuring}
use Rattle.document_checks.specs.Documents.{numbers_of}

pub returns-in-Ok : goal.returns-in-Ok
returns-in-Ok c =
    let asked = as_asked c.args.checks.now in
    let numbers = numbers_of c.args.documents.now in
    let documents : List Place = map node_place c.args.roots.now in
    let operations = c.as_slice.result.now in
    let options : MeasureOptions = record { introspection = asked.introspection; measured = c.args.judged } in
    let same = measuring_is asked numbers c.args.judged c.requires.judged in
    let figures : AreMeasures (measuring asked numbers) (defined documents) (map as_measure operations) =
    subst (λ (o : MeasureOptions). AreMeasures o (defined documents) (map as_measure operations)) same
    (subst (λ (xs : List OperationFigures). AreMeasures options (defined documents) (map as_measure xs))
    (sym c.as_slice.ensures.value) c.in-Ok.ensures.figures) in
    both_clauses c.judge_figures.result
    (measured asked documents numbers (map as_measure operations) c.args.reports.now c.judge_figures.new.reports figures
    c.requires.inside)
    c.judge_figures.ensures.within c.judge_figures.ensures.missing

pub returns-in-Err : goal.returns-in-Err
returns-in-Err c =
    let asked = as_asked c.args.checks.now in
    let numbers = numbers_of c.args.documents.now in
    let documents : List Place = map node_place c.args.roots.now in
    let options : MeasureOptions = record { introspection = asked.introspection; measured = c.args.judged } in
    let same = measuring_is asked numbers c.args.judged c.requires.judged in
    three_clauses c.add_fault.result
    (λ other failed free.
    unmeasured asked documents numbers c.args.reports.now c.add_fault.new.reports
    (λ ms figures. no_figures options (defined documents) c.in-Err.error other c.in-Err.ensures.error ms
    (subst (λ (o : MeasureOptions). AreMeasures o (defined documents) ms) (sym same) figures))
    c.requires.passing failed free)
    c.add_fault.ensures.memory c.add_fault.ensures.failed c.add_fault.ensures.free
