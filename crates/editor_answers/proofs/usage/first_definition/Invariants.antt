use Rattle.std.proofs.Common.{◌≡◌}
use Rattle.std.specs.List.{find}
use Rattle.apollo_tree.specs.Below.{at_or_below}
use Rattle.apollo_tree.specs.References.{node_place}
use Rattle.apollo_tree.specs.Yields.{rest_descendants}
use Rattle.editor_answers.proofs.usage.first_definition.Given as goal
use Rattle.editor_answers.specs.Names.{is_definition}

abbrev pub invariant-loop-element : goal.invariant-loop-element
invariant-loop-element l =
    find (is_definition l.target.kind l.target.text.now) (rest_descendants l.element-iterator)
    ≡ find (is_definition l.target.kind l.target.text.now) (at_or_below (node_place l.target.scope))
