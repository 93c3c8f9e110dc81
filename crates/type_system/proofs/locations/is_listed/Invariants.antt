use Rattle.std.proofs.Common.{◌≡◌}
use Rattle.std.specs.List.{list_any}
use Rattle.apollo_tree.specs.References.{node_place}
use Rattle.apollo_tree.specs.Yields.{rest_nodes}
use Rattle.type_system.proofs.locations.is_listed.Given as goal
use Rattle.type_system.specs.Locations.{is_listed, lists_location}

abbrev pub invariant-loop-part : goal.invariant-loop-part
invariant-loop-part l =
    list_any (lists_location l.name) (rest_nodes l.part-iterator) ≡ is_listed l.name (node_place l.fn.definition)
