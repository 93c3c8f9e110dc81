use Rattle.std.proofs.Common.{take}
use Rattle.directed_graph.proofs.search.mark_all.Given as goal
use Rattle.directed_graph.specs.Marks.{MarksAll}

abbrev pub invariant-loop-vertex : goal.invariant-loop-vertex
invariant-loop-vertex l =
    MarksAll (take l.vertex-index l.row) l.initial.marks.items l.marks.items l.initial.found.items l.found.items
