use Rattle.directed_graph.proofs.SearchLemmas.{edge_read}
use Rattle.directed_graph.proofs.cycles.target.Goals as goal

pub returns : goal.returns
returns c =
    edge_read c.args.graph.now _ _ _ c.in_ok-row.row.now _ c.in_ok-row.ensures.lookup.0
    c.in_ok-row.ensures.lookup.1 c.deref.ensures.value
    c.in_ok-get.ensures.lookup.0 c.in_ok-get.ensures.lookup.1
