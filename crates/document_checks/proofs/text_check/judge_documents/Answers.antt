use Rattle.std.proofs.Common.{◌++◌, List, Option, map, subst, ℕ}
use Rattle.apollo_tree.specs.Order.{Place}
use Rattle.apollo_tree.specs.References.{node_place}
use Rattle.document_validation.specs.Validation.{IsValidation}
use Rattle.document_validation.specs.declared.validation.ValidationOptions.{ValidationOptions}
use Rattle.document_checks.proofs.Passing.{by_limits, by_rules, clean_after, counted_none, kept_if_clean}
use Rattle.document_checks.proofs.Passing.{no_sites_found, none_counted, options_are}
use Rattle.document_checks.proofs.Warnings.{not_both}
use Rattle.document_checks.proofs.text_check.judge_documents.Goals as goal
use Rattle.document_checks.specs.Checking.{as_asked}
use Rattle.document_checks.specs.Documents.{numbers_of}
use Rattle.document_checks.specs.Passing.{found_sites}
use Rattle.document_checks.specs.Schemas.{AreSchemaSites}

-- nothing is found
pub judge_operations-requires-clause-passing : goal.judge_operations-requires-clause-passing
judge_operations-requires-clause-passing c =
    let v = c.in_ok-validation.validation in
    let found = c.in_ok-by_schema.ensures in
    let none = c.finds_nothing.ensures.0 c.if-finds_nothing.true in
    clean_after (numbers_of c.args.documents.now) (found_sites v ++ found.0) c.args.reports.now
    c.add_by_schema.new.reports
    (no_sites_found v.violations.items v.undecided found.0 none.0 none.1
    (none_counted c.in_ok-by_schema.by_schema found.0 found.2 none.2))
    (found.3 (found_sites v) c.args.reports.now c.in_ok-add_validation.ensures)

pub returns-then-finds_nothing : goal.returns-then-finds_nothing
returns-then-finds_nothing c =
    let asked = as_asked c.args.checks.now in
    let documents : List Place = map node_place c.args.roots.now in
    let numbers = numbers_of c.args.documents.now in
    let v = c.in_ok-validation.validation in
    let options = c.options-options.result in
    let same = options_are asked numbers c.args.judged options c.options-options.ensures c.requires.judged in
    let found = c.in_ok-by_schema.ensures in
    let none = c.finds_nothing.ensures.0 c.if-finds_nothing.true in
    let are =
    subst (λ (j : Option ℕ). AreSchemaSites asked.schema j documents numbers found.0) c.requires.judged found.1 in
    by_limits asked documents numbers c.args.reports.now c.add_by_schema.new.reports c.judge_operations.new.reports
    ((kept_if_clean asked documents numbers options v found.0 same c.in_ok-validation.ensures.valid are).0
    ((none.0, none.1), none_counted c.in_ok-by_schema.by_schema found.0 found.2 none.2))
    (found.3 (found_sites v) c.args.reports.now c.in_ok-add_validation.ensures).count
    c.in_ok-judge_operations.ensures

-- some rules are broken, or that is not decided
pub returns : goal.returns
returns c =
    let asked = as_asked c.args.checks.now in
    let documents : List Place = map node_place c.args.roots.now in
    let numbers = numbers_of c.args.documents.now in
    let v = c.in_ok-validation.validation in
    let options = c.options-options.result in
    let same = options_are asked numbers c.args.judged options c.options-options.ensures c.requires.judged in
    let found = c.in_ok-by_schema.ensures in
    let are =
    subst (λ (j : Option ℕ). AreSchemaSites asked.schema j documents numbers found.0) c.requires.judged found.1 in
    by_rules asked documents numbers v found.0 c.args.reports.now c.add_by_schema.new.reports
    (subst (λ (o : ValidationOptions). IsValidation o documents v) same c.in_ok-validation.ensures.exact) are
    (λ clean. not_both c.finds_nothing.result
    (c.finds_nothing.ensures.1
    (clean.0.0, clean.0.1, counted_none c.in_ok-by_schema.by_schema found.0 found.2 clean.1))
    c.if-finds_nothing.false)
    (λ kept. (kept_if_clean asked documents numbers options v found.0 same c.in_ok-validation.ensures.valid are).1 kept)
    c.requires.inside (found.3 (found_sites v) c.args.reports.now c.in_ok-add_validation.ensures)
