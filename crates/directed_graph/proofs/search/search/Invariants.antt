use Rattle.std.proofs.Common.{◌+◌, ◌-◌, length}
use Rattle.directed_graph.proofs.SearchLemmas.{Searched}
use Rattle.directed_graph.proofs.search.search.Given as goal
use Rattle.directed_graph.specs.Marks.{unmarked}

abbrev pub invariant-loop-next : goal.invariant-loop-next
invariant-loop-next l = Searched l.graph l.starts l.marks.items l.found.items l.next

abbrev pub decreases-loop-next : goal.decreases-loop-next
decreases-loop-next l = unmarked l.marks.items + length l.found.items - l.next
