use Rattle.std.proofs.Common.{take}
use Rattle.directed_graph.proofs.search.unmark.Given as goal
use Rattle.directed_graph.specs.Marks.{Unmarks}

abbrev pub invariant-loop-vertex : goal.invariant-loop-vertex
invariant-loop-vertex l = Unmarks (take l.vertex-index l.vertices) l.initial.marks.items l.marks.items
