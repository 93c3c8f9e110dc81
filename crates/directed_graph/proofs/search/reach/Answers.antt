use Rattle.std.proofs.Common.{[], ◌∷◌}
use Rattle.std.proofs.lemmas.Bool.Decides.{same_from_decides}
use Rattle.directed_graph.proofs.ReachLemmas.{has_decides, one_below, reaches_decides}
use Rattle.directed_graph.proofs.search.reach.Goals as goal

pub returns-clause-found : goal.returns-clause-found
returns-clause-found c = λ vertex.
    let found = c.in_ok-found.ensures.found vertex in
    let has = has_decides c.in_ok-found.found.items vertex in
    same_from_decides _ _ ((λ is. found.0 (has.0 is)), (λ reached. has.1 (found.1 reached)))
    (reaches_decides c.args.graph.now (c.args.start ∷ []) vertex c.requires.graph
    (one_below c.args.start _ c.requires.start))
