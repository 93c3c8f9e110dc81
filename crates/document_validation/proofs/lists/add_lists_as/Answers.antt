use Rattle.std.proofs.Common.{ap, ◌∙◌}
use Rattle.apollo_tree.specs.References.{node_place}
use Rattle.apollo_tree.specs.Yields.{rest_descendant_nodes}
use Rattle.validation_names.specs.Sites.{located, nodes}
use Rattle.validation_rules.proofs.AddLemmas.{left_ends, left_next}
use Rattle.document_validation.proofs.lists.add_lists_as.Goals as goal
use Rattle.document_validation.specs.Breaches.{repeats_at}

pub loop-node-init : goal.loop-node-init
loop-node-init c = λ new adds.
    rw (ap rest_descendant_nodes c.into_iter-node-iterator.ensures.into_iter_gives ∙ c.descendants-node-items.ensures)
    at adds

pub loop-node-preserved : goal.loop-node-preserved
loop-node-preserved c =
    left_next (λ p. repeats_at c.args.kind (located c.args.number p)) _ _ (nodes (node_place c.args.document.now)) _ _
    c.loop-node.violations _ c.in-Some.ensures.steps c.loop-node.invariant
    c.in_ok-add_list.ensures

pub returns : goal.returns
returns c =
    left_ends (λ p. repeats_at c.args.kind (located c.args.number p)) _ (nodes (node_place c.args.document.now)) _
    c.loop-node.violations c.in-None.ensures.steps.0 c.loop-node.invariant
