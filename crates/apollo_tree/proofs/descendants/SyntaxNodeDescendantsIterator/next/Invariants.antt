use Rattle.std.proofs.Common.{◌≡◌, length}
use Rattle.apollo_tree.proofs.descendants.SyntaxNodeDescendantsIterator.next.Given as goal
use Rattle.apollo_tree.specs.Yields.{rest_descendants, rest_descendant_nodes}

abbrev pub invariant-loop-element : goal.invariant-loop-element
invariant-loop-element l = rest_descendant_nodes l.self ≡ rest_descendant_nodes l.initial.self

abbrev pub decreases-loop-element : goal.decreases-loop-element
decreases-loop-element l = length (rest_descendants l.self.elements)
