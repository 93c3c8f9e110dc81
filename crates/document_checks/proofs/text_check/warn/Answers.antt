use Rattle.std.proofs.Common.{◌∙◌, List, map, subst, sym}
use Rattle.apollo_tree.specs.Order.{Place}
use Rattle.apollo_tree.specs.References.{node_place}
use Rattle.validation_rules.specs.declared.violations.Violation.{Violation}
use Rattle.document_validation.specs.Validation.{IsValidation}
use Rattle.document_validation.specs.declared.validation.ValidationOptions.{ValidationOptions}
use Rattle.document_checks.proofs.Passing.{warned_of_none, warned_of_some, warning_options_are}
use Rattle.document_checks.proofs.text_check.warn.Goals as goal
use Rattle.document_checks.specs.Checking.{as_asked}
use Rattle.document_checks.specs.Documents.{AreTold, numbers_of}
use Rattle.document_checks.specs.Passing.{violation_sites}

-- no rule is only told
pub returns-then-not-has_any : goal.returns-then-not-has_any
returns-then-not-has_any c =
    warned_of_none (as_asked c.args.checks.now) (map node_place c.args.roots.now) (numbers_of c.args.documents.now)
    c.args.reports.now (sym c.has_any.ensures ∙ c.if-not-has_any.true)

-- some are
pub returns : goal.returns
returns c =
    let asked = as_asked c.args.checks.now in
    let documents : List Place = map node_place c.args.roots.now in
    let numbers = numbers_of c.args.documents.now in
    let told = c.in_ok-told.told in
    let options = c.options-options.result in
    let same = warning_options_are asked numbers c.args.judged options c.options-options.ensures c.requires.judged in
    warned_of_some asked documents numbers told c.args.reports.now c.add_warnings.new.reports
    (sym c.has_any.ensures ∙ c.if-not-has_any.false)
    (subst (λ (o : ValidationOptions). IsValidation o documents told) same c.in_ok-told.ensures.exact)
    (subst (λ (vs : List Violation). AreTold numbers (violation_sites vs) c.args.reports.now c.add_warnings.new.reports)
    c.as_slice-violations.ensures.value c.in_ok-add_warnings.ensures)
