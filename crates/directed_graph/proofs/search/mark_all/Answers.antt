use Rattle.std.proofs.Common.{arith, length, ◌≡◌, ◌<◌, get_or}
use Rattle.std.proofs.Math.Seq.{take-length}
use Rattle.std.proofs.lemmas.List.{take_more}
use Rattle.directed_graph.proofs.MarkLemmas.{marks_old, marks_new, read_false, read_true}
use Rattle.directed_graph.proofs.search.mark_all.Goals as goal
use Rattle.directed_graph.proofs.search.mark_all.Goals.{then-not-index+in_ok-push, else-not-index}

pub loop-vertex-preserved : goal.loop-vertex-preserved
loop-vertex-preserved c =
    let there : c.loop-vertex.vertex-index < length c.args.row.now = omega arith in
    let inv = c.loop-vertex.invariant in
    let inside : get_or c.args.row.now c.loop-vertex.vertex-index 0 < length c.loop-vertex.marks.items =
    rw inv.as_many (c.requires c.loop-vertex.vertex-index 0 there) in
    let marks = c.loop-vertex.marks.items in
    let vertex = get_or c.args.row.now c.loop-vertex.vertex-index 0 in
    elim c.if-not-index.branch [
      | then-not-index+in_ok-push w ↦
          rw (
            take_more c.args.row.now c.loop-vertex.vertex-index 0 there,
            w.marks-is,
            w.found-is,
            w.in_ok-push.ensures.items,
          )
          (marks_new _ _ _ _ _ _ inside (read_false marks vertex _ c.index.ensures w.if-not-index.true) inv)
      | else-not-index w ↦
          rw (take_more c.args.row.now c.loop-vertex.vertex-index 0 there, w.marks-is, w.found-is)
          (marks_old _ _ _ _ _ _ (read_true marks vertex _ inside c.index.ensures w.if-not-index.false) inv)
    ]

pub returns : goal.returns
returns c =
    let end : c.loop-vertex.vertex-index ≡ length c.args.row.now = omega arith in
    rw (end, take-length) at c.loop-vertex.invariant
