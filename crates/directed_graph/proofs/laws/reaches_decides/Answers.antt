use Rattle.directed_graph.proofs.ReachLemmas as lemmas
use Rattle.directed_graph.proofs.laws.reaches_decides.Goals as goal

pub returns : goal.returns
returns c = lemmas.reaches_decides
