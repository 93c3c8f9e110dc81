use Rattle.std.proofs.Common.{◌≡◌}
use Rattle.std.specs.List.{filter}
use Rattle.std.specs.Prelude.{fold, reverse}
use Rattle.apollo_tree.specs.Below.{is_leaf_place}
use Rattle.apollo_tree.specs.References.{node_place}
use Rattle.apollo_tree.specs.Yields.{rest_descendants}
use Rattle.editor_validation.proofs.braces.never_closed.Given as goal
use Rattle.editor_validation.specs.Braces.{never_closed, open_after}

-- the braces so far, and then those of the leaves that are left
abbrev pub invariant-loop-element : goal.invariant-loop-element
invariant-loop-element l =
    fold (open_after l.text) (reverse l.braces.items) (filter is_leaf_place (rest_descendants l.element-iterator))
    ≡ never_closed (node_place l.document)
