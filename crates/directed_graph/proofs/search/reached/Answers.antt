use Rattle.std.proofs.lemmas.Bool.Decides.{same_from_decides}
use Rattle.directed_graph.proofs.ReachLemmas.{reaches_decides}
use Rattle.directed_graph.proofs.search.reached.Goals as goal

pub returns-clause-marked : goal.returns-clause-marked
returns-clause-marked c = λ vertex.
    let marked = c.in_ok-search.ensures.marked vertex in
    same_from_decides _ _ (marked.0, marked.1)
    (reaches_decides c.args.graph.now c.args.starts.now vertex c.requires.graph c.requires.starts)
