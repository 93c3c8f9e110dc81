use Rattle.std.proofs.Common.{◌≡◌, ◌++◌, map}
use Rattle.std.specs.List.{flat_map}
use Rattle.apollo_tree.specs.References.{node_place}
use Rattle.apollo_tree.specs.Yields.{rest_nodes}
use Rattle.validation_names.specs.Sites.{as_located, located}
use Rattle.schema_members.proofs.definitions.push_members.Given as goal
use Rattle.schema_members.specs.Members.{members_in, members_of_block}

abbrev pub invariant-loop-block : goal.invariant-loop-block
invariant-loop-block l =
    map as_located l.found.items
    ++ map (located l.fn.definition.document) (flat_map members_of_block (rest_nodes l.block-iterator))
    ≡ map as_located l.fn.found.items
    ++ map (located l.fn.definition.document) (members_in (node_place l.fn.definition.node))
