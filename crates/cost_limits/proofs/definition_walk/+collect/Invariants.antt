use Rattle.std.proofs.Common.{◌++◌, ◌-◌, length}
use Rattle.apollo_tree.specs.Order.{order}
use Rattle.apollo_tree.specs.References.{node_place}
use Rattle.apollo_tree.specs.Yields.{rest_nodes}
use Rattle.validation_names.specs.Sites.{as_located}
use Rattle.cost_limits.proofs.definition_walk.+collect.Given as goal
use Rattle.cost_limits.specs.Collecting.{IsLeft, number_of}
use Rattle.cost_limits.specs.Items.{items_inside}

abbrev pub decreases-collect : goal.decreases-collect
decreases-collect g l = length (order (node_place l.site.now.node).whole) - (node_place l.site.now.node).index

abbrev pub invariant-loop-node : goal.invariant-loop-node
invariant-loop-node g l =
    IsLeft l.introspection l.site.document (node_place l.site.node) (number_of l.fragments) l.enclosing
    (l.initial.found.items ++ items_inside l.introspection (number_of l.fragments) l.enclosing (as_located l.site))
    l.found.items l.names (rest_nodes l.node-iterator)
