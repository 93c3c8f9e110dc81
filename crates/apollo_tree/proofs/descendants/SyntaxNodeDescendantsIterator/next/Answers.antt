use Rattle.std.proofs.Common.{◌∙◌, sym, ap, length, arith}
use Rattle.std.specs.List.{filter}
use Rattle.apollo_tree.proofs.Nodes.{keep-node, skip-token}
use Rattle.apollo_tree.proofs.descendants.SyntaxNodeDescendantsIterator.next.Goals as goal
use Rattle.apollo_tree.specs.Children.{is_node_place}
use Rattle.apollo_tree.specs.Yields.{rest_descendants}

pub returns-in-Node-clause-steps : goal.returns-in-Node-clause-steps
returns-in-Node-clause-steps c =
    sym c.loop-element.invariant ∙ ap (filter is_node_place) c.in-Some.ensures.steps
    ∙ keep-node c.in-Some.element c.in-Node.node (rest_descendants c.next.new.self) c.in-Node.is

pub returns-in-Node-clause-goes : goal.returns-in-Node-clause-goes
returns-in-Node-clause-goes c =
    record {
      on = λ _. (tt, tt, omega (arith, ap length (returns-in-Node-clause-steps c)));
      keeps = tt;
      rests = λ _. tt;
    }

pub loop-element-preserved : goal.loop-element-preserved
loop-element-preserved c =
    sym (ap (filter is_node_place) c.in-Some.ensures.steps ∙ skip-token c.in-Some.element c.in_default-element.field-0
    (rest_descendants c.next.new.self) c.in_default-element.is) ∙ c.loop-element.invariant
