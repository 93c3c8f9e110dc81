use Rattle.std.proofs.Common.{◌≡◌, ◌-◌, ℕ, length, drop, ap, subst, sym, ◌∙◌, arith, length-drop}
use Rattle.std.proofs.lemmas.List.{length-take}
use Rattle.std.specs.Prelude.{slice_range}
use Rattle.std.specs.Str.{IsUtf8}
use Rattle.line_index.proofs.LineIndex.position.Goals as goal
use Rattle.line_index.proofs.OffsetLemmas.{named}
use Rattle.line_index.specs.Lines.{line_start}
use Rattle.line_index.specs.Positions.{width}
use Rattle.line_index.specs.declared.PositionEncoding.{PositionEncoding}

pub returns-in-Utf8-clause-names : goal.returns-in-Utf8-clause-names
returns-in-Utf8-clause-names g c = λ cursor. (
    let same : c.as_bytes.result.now ≡ c.args.self.now = c.as_bytes.ensures.value ∙ c.self.view_is in
    let start : ℕ = c.args.offset - c.line_column-position.result.column in
    let begin : line_start c.args.self.now c.args.offset ≡ start =
    omega (arith, c.line_column-position.ensures.column) in
    let own : length (slice_range c.args.self.now (line_start c.args.self.now c.args.offset) c.args.offset)
    ≡ c.line_column-position.result.column = omega (
      arith,
      c.line_column-position.ensures.column,
      length-take (c.args.offset - line_start c.args.self.now c.args.offset)
          (drop (line_start c.args.self.now c.args.offset) c.args.self.now),
      length-drop (line_start c.args.self.now c.args.offset) c.args.self.now,
    ) in
    let w : width c.args.encoding (slice_range c.args.self.now (line_start c.args.self.now c.args.offset) c.args.offset)
    ≡ c.line_column-position.result.column =
    ap (λ (e : PositionEncoding). width e
    (slice_range c.args.self.now (line_start c.args.self.now c.args.offset) c.args.offset)) c.in-Utf8.is ∙ own in
    named c.args.encoding c.args.self.now c.args.offset _ _ (subst IsUtf8 same c.as_bytes.ensures.utf8) c.requires
    cursor c.line_column-position.ensures.line
    (omega (
      arith,
      w,
      length-take (c.args.offset - (c.args.offset - c.line_column-position.result.column))
          (drop (c.args.offset - c.line_column-position.result.column) c.as_bytes.result.now),
      length-drop (c.args.offset - c.line_column-position.result.column) c.as_bytes.result.now,
      ap length same,
    )))

pub returns-in-Utf16-clause-names : goal.returns-in-Utf16-clause-names
returns-in-Utf16-clause-names g c = λ cursor. (
    let same : c.as_bytes.result.now ≡ c.args.self.now = c.as_bytes.ensures.value ∙ c.self.view_is in
    named c.args.encoding c.args.self.now c.args.offset _ _ (subst IsUtf8 same c.as_bytes.ensures.utf8) c.requires
    cursor c.line_column-position.ensures.line
    (c.column_in_utf16-column.ensures ∙ ap (λ (e : PositionEncoding). width e
    (slice_range c.args.self.now (line_start c.args.self.now c.args.offset) c.args.offset)) (sym c.in-Utf16.is)))
