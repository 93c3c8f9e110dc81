use Rattle.std.proofs.Common.{◌≡◌, length}
use Rattle.std.specs.List.{filter}
use Rattle.apollo_tree.specs.References.{node_place}
use Rattle.apollo_tree.specs.Yields.{rest_places}
use Rattle.apollo_cst_type_system.proofs.directives.DirectiveLocation.text.Given as goal
use Rattle.apollo_cst_type_system.specs.Locations.{is_location_leaf, location_leaves}

abbrev pub invariant-loop-element : goal.invariant-loop-element
invariant-loop-element l = filter is_location_leaf (rest_places l.elements) ≡ location_leaves (node_place l.self.syntax)

abbrev pub decreases-loop-element : goal.decreases-loop-element
decreases-loop-element l = length (rest_places l.elements)
