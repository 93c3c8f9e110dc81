use Rattle.std.proofs.Common.{◌≡◌, ◌∙◌, List, ap, arith, map, subst}
use Rattle.apollo_tree.specs.Order.{Place}
use Rattle.apollo_tree.specs.References.{node_place}
use Rattle.document_checks.proofs.Passing.{told_after}
use Rattle.document_checks.proofs.text_check.judge.Goals as goal
use Rattle.document_checks.specs.Checking.{as_asked}
use Rattle.document_checks.specs.Documents.{AreChecked, numbers_of, root_of}

pub warn-requires-clause-inside : goal.warn-requires-clause-inside
warn-requires-clause-inside c =
    λ number. omega (arith, c.requires.inside number, c.in_ok-judge_documents.ensures.count)

pub returns : goal.returns
returns c =
    let asked = as_asked c.args.checks.now in
    let numbers = numbers_of c.args.documents.now in
    let same : map node_place c.as_slice-roots.result.now ≡ map root_of c.args.documents.now =
    ap (map node_place) c.as_slice-roots.ensures.value ∙ c.in_ok-roots.ensures in
    subst (λ (xs : List Place). AreChecked asked xs numbers c.args.reports.now c.warn.new.reports) same
    (told_after asked (map node_place c.as_slice-roots.result.now) numbers c.args.reports.now
    c.judge_documents.new.reports c.warn.new.reports c.in_ok-judge_documents.ensures c.in_ok-warn.ensures)
