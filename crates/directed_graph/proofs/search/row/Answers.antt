use Rattle.std.proofs.Common.{sym, ◌∙◌}
use Rattle.directed_graph.proofs.SearchLemmas.{row_of_read}
use Rattle.directed_graph.proofs.search.row.Goals as goal

pub returns : goal.returns
returns c = c.deref.ensures.value
    ∙ sym (row_of_read c.args.graph.now c.args.vertex c.index-graph-vertex.result c.requires c.index-graph-vertex.is)
