use Rattle.std.proofs.Common.{arith, refl, sym, ◌∙◌, ap}
use Rattle.std.proofs.lemmas.List.FromFn.{map-range_with_len_more}
use Rattle.directed_graph.proofs.cycles.returns.Goals as goal
use Rattle.directed_graph.specs.Reach.{first_return}

pub loop-vertex-preserved : goal.loop-vertex-preserved
loop-vertex-preserved c = record {
  as_many = c.in_ok-other.ensures.as_many;
  unmarked = c.in_ok-other.ensures.unmarked;
  are = rw (
    c.in_ok-push.ensures.items,
    c.in_ok-other.ensures.first,
    c.loop-vertex.invariant.are,
    map-range_with_len_more (first_return c.args.graph.now) 0 c.loop-vertex.vertex c.loop-vertex.vertex (omega arith),
  ) refl;
}
