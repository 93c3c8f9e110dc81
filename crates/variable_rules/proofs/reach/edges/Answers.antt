use Rattle.std.proofs.Common.{length, ap, sym, ◌∙◌}
use Rattle.directed_graph.proofs.SearchLemmas.{row_of_read}
use Rattle.variable_rules.proofs.reach.edges.Goals as goal

pub returns : goal.returns
returns c =
    let read = row_of_read c.args.graph.now c.args.vertex c.index-graph-vertex.result c.requires
    c.index-graph-vertex.is in
    ap length (c.deref-row.ensures.value ∙ sym read)
