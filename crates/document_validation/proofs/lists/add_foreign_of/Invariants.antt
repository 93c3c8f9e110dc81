use Rattle.apollo_tree.specs.Children.{child_nodes}
use Rattle.apollo_tree.specs.References.{node_place}
use Rattle.apollo_tree.specs.Yields.{rest_nodes}
use Rattle.validation_names.specs.Sites.{located}
use Rattle.validation_rules.proofs.AddLemmas.{IsLeft}
use Rattle.document_validation.proofs.lists.add_foreign_of.Given as goal
use Rattle.document_validation.specs.Breaches.{foreign_at}

abbrev pub invariant-loop-node : goal.invariant-loop-node
invariant-loop-node l =
    IsLeft (λ p. foreign_at (located l.number p)) (rest_nodes l.node-iterator) (child_nodes (node_place l.document))
    l.initial.violations l.violations
