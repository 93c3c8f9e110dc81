use Rattle.std.proofs.Common.{◌-◌, ◌+◌, ◌*◌, ◌≡◌, ℕ, ◌<◌, length, get_or, take, ◌∙◌, ap, subst, sym, List, ◌++◌, ◌∷◌}
use Rattle.std.proofs.Common.{[], arith, length-append}
use Rattle.std.specs.List.{sum_by}
use Rattle.line_index.proofs.ColumnLemmas.{weight-part, weight-small}
use Rattle.line_index.proofs.MarkLemmas.{next-mark, one-more}
use Rattle.line_index.proofs.marks.Goals as goal
use Rattle.line_index.specs.Columns.{weight}

pub weight_of-total-requires : goal.weight_of-total-requires
weight_of-total-requires g c =
    let at = c.loop-mark.mark * 64 in
    weight-part c.args.counted c.as_bytes-bytes.result.now at (at + 64 - at) c.as_bytes-bytes.ensures.utf8
    c.as_bytes-bytes.type_inv.0

pub overflow_add-total : goal.overflow_add-total
overflow_add-total g c =
    let bytes = c.as_bytes-bytes.result.now in
    let m = c.loop-mark.mark in
    omega (
      arith,
      next-mark (weight c.args.counted) bytes m c.loop-mark.total c.weight_of-total.result c.loop-mark.invariant.total
          c.weight_of-total.ensures,
      weight-small c.args.counted bytes (64 * (m + 1)) c.as_bytes-bytes.ensures.utf8 c.as_bytes-bytes.type_inv.0,
    )

pub loop-mark-preserved : goal.loop-mark-preserved
loop-mark-preserved g c =
    let bytes = c.as_bytes-bytes.result.now in
    let m = c.loop-mark.mark in
    let total : c.loop-mark.total + c.weight_of-total.result
    ≡ sum_by (weight c.args.counted) (take (64 * (m + 1)) bytes) =
    next-mark (weight c.args.counted) bytes m c.loop-mark.total c.weight_of-total.result c.loop-mark.invariant.total
    c.weight_of-total.ensures in
    let items : c.push-in-loop-mark.new.self.items ≡ c.loop-mark.marks.items
    ++ (c.loop-mark.total + c.weight_of-total.result)
    ∷ [] = c.in_ok-push-2.ensures.items in
    record {
      count = ap length items
          ∙ (length-append c.loop-mark.marks.items ((c.loop-mark.total + c.weight_of-total.result) ∷ [])
          ∙ ap (λ (n : ℕ). n + 1) c.loop-mark.invariant.count);
      total = total;
      each = subst (λ (l : List ℕ). (i : ℕ) → i < length l
          → get_or l i 0 ≡ sum_by (weight c.args.counted) (take (64 * i) bytes)) (sym items)
          (one-more (weight c.args.counted) bytes c.loop-mark.marks.items (c.loop-mark.total + c.weight_of-total.result)
          m c.loop-mark.invariant.count total
          c.loop-mark.invariant.each);
    }
