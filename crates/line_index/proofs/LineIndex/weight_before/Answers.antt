use Rattle.std.proofs.Common.{◌≡◌, ◌<◌, ◌-◌, ◌*◌, ◌/◌, ◌∙◌, List, ℕ, take, length, ap, sym, arith}
use Rattle.std.specs.List.{sum_by}
use Rattle.line_index.proofs.ColumnLemmas.{weight-part, weight-small, ascii-before}
use Rattle.line_index.proofs.LineIndex.weight_before.Goals as goal
use Rattle.line_index.proofs.MarkLemmas.{before, no-marks, some-marks}
use Rattle.line_index.specs.Columns.{weight}

pub returns-then-is_empty : goal.returns-then-is_empty
returns-then-is_empty g c =
    let ascii = c.marks-marks.ensures.none (no-marks _ _ c.is_empty.ensures c.if-is_empty.true) in
    sym (ascii-before c.args.counted c.args.self.now c.args.offset ascii c.requires)

pub weight_of-requires : goal.weight_of-requires
weight_of-requires g c =
    let at = c.args.offset / 64 * 64 in
    weight-part c.args.counted c.as_bytes.result.now at (c.args.offset - at)
    c.as_bytes.ensures.utf8 c.as_bytes.type_inv.0

pub overflow_add-result : goal.overflow_add-result
overflow_add-result g c =
    let same : c.as_bytes.result.now ≡ c.args.self.now = c.as_bytes.ensures.value ∙ c.self.view_is in
    let some : 0 < length c.marks-marks.result.now = some-marks _ _ c.is_empty.ensures c.if-is_empty.false in
    omega (
      arith,
      before (weight c.args.counted) _ _ _ _ _ same c.marks-marks.ensures some c.requires c.weight_of.ensures,
      weight-small c.args.counted c.as_bytes.result.now c.args.offset c.as_bytes.ensures.utf8 c.as_bytes.type_inv.0,
      ap (λ (t : List ℕ). sum_by (weight c.args.counted) (take c.args.offset t)) same,
    )

pub returns : goal.returns
returns g c =
    let same : c.as_bytes.result.now ≡ c.args.self.now = c.as_bytes.ensures.value ∙ c.self.view_is in
    let some : 0 < length c.marks-marks.result.now = some-marks _ _ c.is_empty.ensures c.if-is_empty.false in
    before (weight c.args.counted) _ _ _ _ _ same c.marks-marks.ensures some c.requires c.weight_of.ensures
