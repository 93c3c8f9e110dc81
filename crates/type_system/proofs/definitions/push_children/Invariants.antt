use Rattle.std.proofs.Common.{◌≡◌, ◌++◌, map}
use Rattle.apollo_tree.specs.Children.{child_nodes}
use Rattle.apollo_tree.specs.References.{node_place}
use Rattle.apollo_tree.specs.Yields.{rest_nodes}
use Rattle.validation_names.specs.Sites.{as_located, located}
use Rattle.type_system.proofs.definitions.push_children.Given as goal

abbrev pub invariant-loop-node : goal.invariant-loop-node
invariant-loop-node l =
    map as_located l.found.items ++ map (located l.fn.document) (rest_nodes l.node-iterator)
    ≡ map as_located l.fn.found.items ++ map (located l.fn.document) (child_nodes (node_place l.fn.parent))
