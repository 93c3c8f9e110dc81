use Rattle.std.proofs.Common.{◌≡◌, ◌++◌, drop, map}
use Rattle.std.specs.Prelude.{filter_map}
use Rattle.json.specs.Value.{value_view}
use Rattle.gqlls_server.proofs.parameters.names_in.Given as goal
use Rattle.gqlls_server.specs.Parameters.{name_in}

abbrev pub invariant-loop-item : goal.invariant-loop-item
invariant-loop-item l =
    map (λ uri. uri.now) l.uris.items
    ++ filter_map name_in (map value_view (drop l.item-index l.items)) ≡ filter_map name_in (map value_view l.items)
