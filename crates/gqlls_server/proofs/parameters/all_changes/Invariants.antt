use Rattle.std.proofs.Common.{drop, map}
use Rattle.json.specs.Value.{value_view}
use Rattle.gqlls_server.proofs.Changes.{IsSoFar}
use Rattle.gqlls_server.proofs.parameters.all_changes.Given as goal
use Rattle.gqlls_server.specs.Parameters.{edit_in, client_edit}

abbrev pub invariant-loop-item : goal.invariant-loop-item
invariant-loop-item l =
    IsSoFar edit_in (map value_view l.items) (map client_edit l.changes.items)
    (map value_view (drop l.item-index l.items))
