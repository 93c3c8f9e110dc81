use Rattle.std.proofs.Common.{◌≡◌, ◌-◌, ℕ, ap, arith}
use Rattle.std.specs.List.{sum_by}
use Rattle.std.specs.Prelude.{slice_range}
use Rattle.line_index.proofs.LineIndex.column.Goals as goal
use Rattle.line_index.proofs.MarkLemmas.{sum-slice}
use Rattle.line_index.specs.Columns.{weight}
use Rattle.line_index.specs.Lines.{line_start}

pub overflow_sub-result : goal.overflow_sub-result
overflow_sub-result g c =
    let start = c.args.offset - c.line_column.result.column in
    omega (
      arith,
      c.weight_before.ensures,
      c.weight_before-2.ensures,
      sum-slice (weight c.args.counted) c.args.self.now start c.args.offset (omega arith),
    )

pub returns : goal.returns
returns g c =
    let start : ℕ = c.args.offset - c.line_column.result.column in
    let begin : line_start c.args.self.now c.args.offset ≡ start = omega (arith, c.line_column.ensures.column) in
    let at = ap (λ (s : ℕ). sum_by (weight c.args.counted) (slice_range c.args.self.now s c.args.offset)) begin in
    omega (
      arith,
      at,
      c.weight_before.ensures,
      c.weight_before-2.ensures,
      sum-slice (weight c.args.counted) c.args.self.now start c.args.offset (omega arith),
    )
