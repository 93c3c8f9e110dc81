use Rattle.std.proofs.Common.{◌≡◌, ◌++◌, map}
use Rattle.std.specs.List.{filter}
use Rattle.apollo_tree.specs.Below.{at_or_below}
use Rattle.apollo_tree.specs.Order.{range_at}
use Rattle.apollo_tree.specs.References.{node_place}
use Rattle.apollo_tree.specs.Yields.{rest_descendants}
use Rattle.editor_answers.proofs.usage.all_references.Given as goal
use Rattle.editor_answers.specs.Names.{is_reference}
use Rattle.editor_answers.specs.Parts.{bounds}

abbrev pub invariant-loop-element : goal.invariant-loop-element
invariant-loop-element l =
    map bounds l.found.items
    ++ map range_at (filter (is_reference l.with_definition l.target.kind l.target.text.now)
    (rest_descendants l.element-iterator))
    ≡ map range_at (filter (is_reference l.with_definition l.target.kind l.target.text.now)
    (at_or_below (node_place l.target.scope)))
