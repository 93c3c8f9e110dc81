use Rattle.std.proofs.Common.{◌≡◌, ◌++◌, map}
use Rattle.apollo_parser.specs.Order.{range_at}
use Rattle.apollo_parser.specs.References.{node_place}
use Rattle.apollo_parser.specs.Yields.{rest_nodes}
use Rattle.first_errors.proofs.definition_errors.definition_starts.Given as goal
use Rattle.first_errors.specs.Groups.{definition_starts}

abbrev pub invariant-loop-node : goal.invariant-loop-node
invariant-loop-node g l =
    l.starts.items ++ map (λ node. (range_at node).0) (rest_nodes l.node-iterator)
    ≡ definition_starts (node_place l.document)
