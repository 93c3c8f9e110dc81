use Rattle.apollo_tree.specs.References.{node_place}
use Rattle.apollo_tree.specs.Yields.{rest_descendant_nodes}
use Rattle.validation_names.specs.Sites.{located, nodes}
use Rattle.validation_rules.proofs.AddLemmas.{IsLeft}
use Rattle.document_validation.proofs.lists.add_lists_as.Given as goal
use Rattle.document_validation.specs.Breaches.{repeats_at}

abbrev pub invariant-loop-node : goal.invariant-loop-node
invariant-loop-node l =
    IsLeft (λ p. repeats_at l.kind (located l.number p)) (rest_descendant_nodes l.node-iterator)
    (nodes (node_place l.document)) l.initial.violations
    l.violations
