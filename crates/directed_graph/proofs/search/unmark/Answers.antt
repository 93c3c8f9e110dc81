use Rattle.std.proofs.Common.{arith, length, ◌≡◌, ◌<◌, get_or}
use Rattle.std.proofs.Math.Seq.{take-length}
use Rattle.std.proofs.lemmas.List.{take_more}
use Rattle.directed_graph.proofs.MarkLemmas.{unmarks_none, unmarks_more}
use Rattle.directed_graph.proofs.search.unmark.Goals as goal

pub loop-vertex-init : goal.loop-vertex-init
loop-vertex-init c = unmarks_none _

pub loop-vertex-preserved : goal.loop-vertex-preserved
loop-vertex-preserved c =
    let there = c.loop-vertex-test.true in
    let inv = c.loop-vertex.invariant in
    let inside : get_or c.args.vertices.now c.loop-vertex.vertex-index 0 < length c.loop-vertex.marks.items =
    rw inv.as_many (c.requires c.loop-vertex.vertex-index 0 there) in
    rw (take_more c.args.vertices.now c.loop-vertex.vertex-index 0 there) (unmarks_more _ _ _ _ inside inv)

pub returns : goal.returns
returns c =
    let end : c.loop-vertex.vertex-index ≡ length c.args.vertices.now = omega arith in
    rw (end, take-length) at c.loop-vertex.invariant
