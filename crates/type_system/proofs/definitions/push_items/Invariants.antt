use Rattle.std.proofs.Common.{◌≡◌, ◌++◌, map}
use Rattle.std.specs.List.{filter, flat_map}
use Rattle.apollo_tree.specs.Children.{child_nodes}
use Rattle.apollo_tree.specs.Yields.{rest_nodes}
use Rattle.apollo_cst_core.specs.Kinds.{is_of}
use Rattle.validation_names.specs.Sites.{as_located, located}
use Rattle.type_system.proofs.definitions.push_items.Given as goal
use Rattle.type_system.specs.Definitions.{items}

abbrev pub invariant-loop-child : goal.invariant-loop-child
invariant-loop-child l =
    map as_located l.found.items
    ++ map (located l.fn.definition.document)
    (flat_map child_nodes (filter (is_of l.fn.block) (rest_nodes l.child-iterator)))
    ≡ map as_located l.fn.found.items ++ items l.fn.block (as_located l.fn.definition)
