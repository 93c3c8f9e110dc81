use Rattle.std.proofs.Common.{arith, length, ◌≤◌}
use Rattle.directed_graph.proofs.SearchLemmas.{in_row}
use Rattle.directed_graph.proofs.cycles.is_sound.Goals as goal
use Rattle.directed_graph.specs.Parts.{Follows, GoesOut, part_of}

pub returns-then-goes_out : goal.returns-then-goes_out
returns-then-goes_out c = λ is.
    let parts = c.args.parts.now in
    let items = c.row-to-items.result.now in
    let end : length items ≤ c.loop-to.to-index = omega arith in
    let out : GoesOut c.args.graph.now parts c.args.vertex = c.goes_out.ensures c.if-goes_out.true in
    record {
      order = in_row (Follows parts (part_of parts c.args.vertex)) c.args.graph.now c.args.vertex items _
          c.row-to-items.ensures end c.loop-to.invariant;
      out = out;
      into = c.comes_in.ensures is;
    }
