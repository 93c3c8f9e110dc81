use Rattle.std.proofs.Common.{◌≡◌, ◌≤◌, [], ◌∷◌, arith, get_or, length, refl, sym, ◌∙◌, ap, drop}
use Rattle.std.proofs.lemmas.List.{at_drop_more}
use Rattle.std.proofs.lemmas.List.Elements.{Contains-get_or}
use Rattle.std.specs.List.{find}
use Rattle.directed_graph.proofs.cycles.first_return.Goals as goal
use Rattle.directed_graph.specs.Graph.{HasEdge}
use Rattle.directed_graph.specs.Reach.{reaches}

pub leads_back-requires-clause-edge : goal.leads_back-requires-clause-edge
leads_back-requires-clause-edge c =
    rw (← c.row-other-items.ensures)
    (Contains-get_or c.row-other-items.result.now c.loop-other.other-index 0 c.loop-other-test.true)

pub leads_back-requires-clause-other : goal.leads_back-requires-clause-other
leads_back-requires-clause-other c =
    let items = c.row-other-items.result.now in
    let edge : HasEdge c.args.graph.now c.args.vertex (get_or items c.loop-other.other-index 0) =
    rw (← c.row-other-items.ensures) (Contains-get_or items c.loop-other.other-index 0 c.loop-other-test.true) in
    c.requires.closed c.args.vertex _ edge
