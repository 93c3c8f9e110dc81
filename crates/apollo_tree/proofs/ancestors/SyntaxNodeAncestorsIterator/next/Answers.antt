use Rattle.std.proofs.Common.{◌∙◌, ap, length, arith}
use Rattle.std.specs.ControlFlow.{continue_value}
use Rattle.apollo_tree.proofs.Chains.{chain-step}
use Rattle.apollo_tree.proofs.ancestors.SyntaxNodeAncestorsIterator.next.Goals as goal
use Rattle.apollo_tree.specs.Yields.{up_from}

pub returns-clause-steps : goal.returns-clause-steps
returns-clause-steps c = ap up_from (c.branch-node.ensures ∙ ap continue_value c.in_ok-node.is)
    ∙ chain-step c.in_ok-node.node c.parent-self.result c.parent-self.ensures

pub returns-clause-goes : goal.returns-clause-goes
returns-clause-goes c =
    record { on = λ _. (tt, tt, omega (arith, ap length (returns-clause-steps c))); keeps = tt; rests = λ _. tt }
