use Rattle.std.proofs.Common.{ap, ◌∙◌}
use Rattle.apollo_tree.specs.Children.{child_nodes}
use Rattle.apollo_tree.specs.References.{node_place}
use Rattle.apollo_tree.specs.Yields.{rest_nodes}
use Rattle.validation_names.specs.Sites.{located}
use Rattle.validation_rules.proofs.AddLemmas.{left_ends, left_next}
use Rattle.document_validation.proofs.lists.add_foreign_of.Goals as goal
use Rattle.document_validation.specs.Breaches.{foreign_at}

pub loop-node-init : goal.loop-node-init
loop-node-init c = λ new
    adds. rw (ap rest_nodes c.into_iter-node-iterator.ensures.into_iter_gives ∙ c.children-node-items.ensures) at adds

pub loop-node-preserved : goal.loop-node-preserved
loop-node-preserved c =
    left_next (λ p. foreign_at (located c.args.number p)) _ _ (child_nodes (node_place c.args.document.now)) _ _
    c.loop-node.violations _ c.in-Some.ensures.steps c.loop-node.invariant
    c.in_ok-add_if_foreign.ensures

pub returns : goal.returns
returns c = left_ends (λ p. foreign_at (located c.args.number p)) _ (child_nodes (node_place c.args.document.now)) _
    c.loop-node.violations c.in-None.ensures.steps.0 c.loop-node.invariant
