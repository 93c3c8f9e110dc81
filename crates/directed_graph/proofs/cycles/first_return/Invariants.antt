use Rattle.std.proofs.Common.{◌≡◌, [], ◌∷◌, drop, length}
use Rattle.std.specs.List.{find}
use Rattle.directed_graph.proofs.cycles.first_return.Given as goal
use Rattle.directed_graph.specs.Marks.{AreUnmarked}
use Rattle.directed_graph.specs.Reach.{first_return, reaches}

abbrev pub invariant-loop-other : goal.invariant-loop-other
invariant-loop-other l = record {
  as_many : length l.marks.items ≡ length l.graph;
  unmarked : AreUnmarked l.marks.items;
  rest : first_return l.graph l.vertex
      ≡ find (λ other. reaches l.graph (other ∷ []) l.vertex) (drop l.other-index l.other-items);
}
