use Rattle.std.proofs.Common.{◌≡◌}
use Rattle.std.specs.List.{list_any}
use Rattle.std.specs.Prelude.{bytes_eq}
use Rattle.apollo_tree.specs.Children.{child_nodes}
use Rattle.apollo_tree.specs.Order.{text_at}
use Rattle.apollo_tree.specs.References.{node_place}
use Rattle.apollo_tree.specs.Yields.{rest_nodes}
use Rattle.type_system.proofs.locations.has_location.Given as goal

abbrev pub invariant-loop-location : goal.invariant-loop-location
invariant-loop-location l =
    list_any (λ one. bytes_eq (text_at one) l.name) (rest_nodes l.location-iterator)
    ≡ list_any (λ one. bytes_eq (text_at one) l.name) (child_nodes (node_place l.fn.locations))
