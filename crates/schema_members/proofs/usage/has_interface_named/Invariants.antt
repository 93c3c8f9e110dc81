use Rattle.std.proofs.Common.{◌≡◌}
use Rattle.std.specs.List.{list_any}
use Rattle.apollo_tree.specs.References.{node_place}
use Rattle.apollo_tree.specs.Yields.{rest_nodes}
use Rattle.schema_members.proofs.usage.has_interface_named.Given as goal
use Rattle.schema_members.specs.Members.{has_interface_named, is_interface_named}

abbrev pub invariant-loop-definition : goal.invariant-loop-definition
invariant-loop-definition l =
    list_any (is_interface_named l.name) (rest_nodes l.definition-iterator)
    ≡ has_interface_named l.name (node_place l.fn.root)
