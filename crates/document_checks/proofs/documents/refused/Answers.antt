use Rattle.std.proofs.Common.{◌≡◌, ◌∙◌, ◌≤◌, ap, arith, map, take}
use Rattle.std.proofs.lemmas.Bool.Decides.{nat_tests}
use Rattle.std.proofs.lemmas.List.{take_all}
use Rattle.apollo_tree.specs.References.{node_place}
use Rattle.apollo_parser.specs.Errors.{error_of}
use Rattle.first_errors.specs.Places.{shown_at}
use Rattle.document_checks.proofs.Found.{first_found}
use Rattle.document_checks.proofs.documents.refused.Goals as goal
use Rattle.document_checks.specs.declared.report.Finding.{Finding}

-- all the errors that are shown are found
pub returns-clause-found : goal.returns-clause-found
returns-clause-found c =
    let source = c.args.source.now in
    let items = c.deref-error-items.result.now in
    let all : take c.loop-error.error-index items ≡ c.in_ok-first.first.errors.items =
    take_all c.loop-error.error-index items c.loop-error-test.false ∙ c.deref-error-items.ensures.value in
    let some : 1 ≤ c.max.result = grind (arith, nat_tests, c.max.ensures) in
    first_found source (node_place c.args.document.now) (map error_of c.args.errors.now)
    (map error_of c.in_ok-first.first.errors.items) c.max.result
    c.in_ok-first.first.more (map (λ (finding : Finding). finding.start) c.failed.result.findings.items)
    some c.in_ok-first.ensures
    (ap (map (λ (finding : Finding). finding.start)) c.failed.ensures.findings ∙ c.loop-error.invariant.starts
    ∙ ap (λ xs. map (shown_at source) (map error_of xs)) all)
