use Rattle.directed_graph.proofs.cycles.are_sound.Given as goal
use Rattle.directed_graph.specs.Parts.{AreSound}

abbrev pub invariant-loop-vertex : goal.invariant-loop-vertex
invariant-loop-vertex l = AreSound l.graph l.parts l.vertex
