use Rattle.std.proofs.Common.{◌≡◌, ◌++◌, map}
use Rattle.std.specs.List.{filter}
use Rattle.apollo_tree.specs.References.{node_place}
use Rattle.apollo_tree.specs.Yields.{rest_nodes}
use Rattle.apollo_cst_core.specs.Kinds.{is_of_one}
use Rattle.validation_names.specs.Sites.{as_located, located}
use Rattle.schema_members.proofs.definitions.push_block.Given as goal
use Rattle.schema_members.specs.Members.{members_of_block}
use Rattle.schema_members.specs.declared.definitions.TheConstants.{MEMBERS}

abbrev pub invariant-loop-node : goal.invariant-loop-node
invariant-loop-node l =
    map as_located l.found.items ++ map (located l.document) (filter (is_of_one MEMBERS) (rest_nodes l.node-iterator))
    ≡ map as_located l.fn.found.items ++ map (located l.document) (members_of_block (node_place l.fn.block))
