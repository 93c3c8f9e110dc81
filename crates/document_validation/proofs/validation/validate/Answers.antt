use Rattle.std.proofs.Common.{None, map, refl, subst}
use Rattle.apollo_tree.specs.References.{node_place}
use Rattle.validation_rules.specs.Violations.{as_breach}
use Rattle.document_validation.proofs.FoundLemmas.{all_selected, found_none}
use Rattle.document_validation.proofs.validation.validate.Goals as goal
use Rattle.document_validation.specs.Breaches.{AreFound, breaches}

pub returns-clause-exact : goal.returns-clause-exact
returns-clause-exact c =
    let documents = map node_place c.args.documents.now in
    let selection = c.everything.result in
    let is = c.in_ok-validation.ensures.exact in
    let found = map as_breach c.in_ok-validation.validation.violations.items in
    subst (λ bs. AreFound c.args.most bs found) (all_selected selection (breaches documents) c.everything.ensures)
    (is.found None (λ number below. refl))

pub returns-clause-valid : goal.returns-clause-valid
returns-clause-valid c some =
    found_none c.args.most (breaches (map node_place c.args.documents.now))
    c.in_ok-validation.validation.violations.items (returns-clause-exact c).same some
