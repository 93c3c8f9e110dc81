use Rattle.std.proofs.Common.{◌≡◌, ◌+◌, length, take, subst, sym, refl, arith}
use Rattle.std.specs.Str.{IsCharBoundary}
use Rattle.line_index.proofs.FirstLineLemmas.{line-from, fitted}
use Rattle.line_index.proofs.LineLemmas.{start-boundary}
use Rattle.line_index.proofs.OffsetLemmas.{end-boundary, at-end, at-floor, at-units, units-boundary}
use Rattle.line_index.proofs.first_lines.offset_in_line.Goals as goal
use Rattle.line_index.specs.Positions.{units, offset_of}
use Rattle.line_index.specs.declared.PositionEncoding.{PositionEncoding}

pub range_from-requires : goal.range_from-requires
range_from-requires c =
    λ some. subst (IsCharBoundary c.args.text.now) c.requires.begins
    (start-boundary c.args.text.now c.args.start c.utf8.text c.requires.within)

pub returns-then-column-end-clause-boundary : goal.returns-then-column-end-clause-boundary
returns-then-column-end-clause-boundary c =
    let l = line-from c.args.text.now _ c.first_line.result.now c.args.start _ c.utf8.text c.requires.within
    c.requires.begins refl c.range_from.ensures.value
    c.first_line.ensures in
    end-boundary _ _ _ _ l

pub returns-then-column-end-clause-position : goal.returns-then-column-end-clause-position
returns-then-column-end-clause-position c = λ position line column.
    let l = line-from c.args.text.now _ c.first_line.result.now c.args.start position.line c.utf8.text c.requires.within
    c.requires.begins line
    c.range_from.ensures.value c.first_line.ensures in
    at-end c.args.encoding c.args.text.now c.args.start (c.args.start + length c.first_line.result.now) position.line
    position.column l (omega arith)

pub returns-in-Utf8-clause-position : goal.returns-in-Utf8-clause-position
returns-in-Utf8-clause-position c = λ position line column.
    let l = line-from c.args.text.now _ c.first_line.result.now c.args.start position.line c.utf8.text c.requires.within
    c.requires.begins line
    c.range_from.ensures.value c.first_line.ensures in
    subst (λ (e : PositionEncoding). length (units e (take c.floor_char_boundary.result c.args.text.now))
    ≡ offset_of e (units e c.args.text.now) position)
    (sym c.in-Utf8.is)
    (at-floor c.args.text.now c.args.start (c.args.start + length c.first_line.result.now) position.line position.column
    c.floor_char_boundary.result l
    (omega arith) (omega (arith, c.floor_char_boundary.ensures.bound)) c.floor_char_boundary.ensures.boundary
    (λ i low high. c.floor_char_boundary.ensures.nearest i low (omega arith)))

pub returns-in-Utf16-clause-boundary : goal.returns-in-Utf16-clause-boundary
returns-in-Utf16-clause-boundary c =
    let l = line-from c.args.text.now _ c.first_line.result.now c.args.start _ c.utf8.text c.requires.within
    c.requires.begins refl c.range_from.ensures.value
    c.first_line.ensures in
    let f = fitted c.args.text.now c.as_bytes.result.now c.args.start (c.args.start + length c.first_line.result.now)
    c.args.column c.fitting.result
    c.as_bytes.ensures.value (omega arith) l.within c.fitting.ensures.within c.fitting.ensures.fits
    c.fitting.ensures.full in
    units-boundary _ _ _ _ c.args.column _ l f.0 f.1 f.2

pub returns-in-Utf16-clause-position : goal.returns-in-Utf16-clause-position
returns-in-Utf16-clause-position c = λ position line column.
    let l = line-from c.args.text.now _ c.first_line.result.now c.args.start position.line c.utf8.text c.requires.within
    c.requires.begins line
    c.range_from.ensures.value c.first_line.ensures in
    let f = fitted c.args.text.now c.as_bytes.result.now c.args.start (c.args.start + length c.first_line.result.now)
    c.args.column c.fitting.result
    c.as_bytes.ensures.value (omega arith) l.within c.fitting.ensures.within c.fitting.ensures.fits
    c.fitting.ensures.full in
    subst (λ (e : PositionEncoding). length (units e (take (c.args.start + c.fitting.result) c.args.text.now))
    ≡ offset_of e (units e c.args.text.now) position)
    (sym c.in-Utf16.is)
    (at-units c.args.text.now c.args.start (c.args.start + length c.first_line.result.now) position.line position.column
    (c.args.start + c.fitting.result) l
    (omega arith) f.0 (omega (arith, f.1, column)) (λ less. omega (arith, f.2 less, column)))
