use Rattle.std.proofs.Common.{◌≡◌, length, map}
use Rattle.std.specs.List.{range_with_len}
use Rattle.directed_graph.proofs.cycles.returns.Given as goal
use Rattle.directed_graph.specs.Marks.{AreUnmarked}
use Rattle.directed_graph.specs.Reach.{first_return}

abbrev pub invariant-loop-vertex : goal.invariant-loop-vertex
invariant-loop-vertex l = record {
  as_many : length l.marks.items ≡ length l.graph;
  unmarked : AreUnmarked l.marks.items;
  are : l.found.items ≡ map (first_return l.graph) (range_with_len 0 l.vertex);
}
