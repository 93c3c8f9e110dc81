use Rattle.std.proofs.Common.{◌≡◌, ◌++◌, map}
use Rattle.std.specs.List.{filter_map}
use Rattle.apollo_tree.specs.Children.{child_nodes}
use Rattle.apollo_tree.specs.References.{node_place}
use Rattle.apollo_tree.specs.Yields.{rest_nodes}
use Rattle.validation_names.proofs.executables.push_definitions.Given as goal
use Rattle.validation_names.specs.Definitions.{as_defined, defined_at}
use Rattle.validation_names.specs.Sites.{located}

abbrev pub invariant-loop-node : goal.invariant-loop-node
invariant-loop-node g l =
    map as_defined l.definitions.items ++ filter_map defined_at (map (located l.number) (rest_nodes l.node-iterator))
    ≡ map as_defined l.initial.definitions.items
    ++ filter_map defined_at (map (located l.number) (child_nodes (node_place l.document)))
