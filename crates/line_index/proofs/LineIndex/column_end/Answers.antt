use Rattle.std.proofs.Common.{refl, ◌≡◌, ◌-◌, ◌+◌, ◌*◌, ◌∙◌, List, ℕ, length, ap, subst, arith}
use Rattle.std.specs.Str.{IsUtf8}
use Rattle.line_index.proofs.ColumnLemmas.{ascii-slice, ascii-unit}
use Rattle.line_index.proofs.LineIndex.column_end.Goals as goal
use Rattle.line_index.proofs.MarkLemmas.{no-marks, marks-ordered, mark-units, whole-part-fits, from-units}
use Rattle.line_index.proofs.MarkLemmas.{units-boundary, room-fits, room-full}

pub overflow_add-wanted : goal.overflow_add-wanted
overflow_add-wanted g c =
    let same : c.as_bytes-bytes.result.now ≡ c.args.self.now = c.as_bytes-bytes.ensures.value ∙ c.self.view_is in
    let utf8 : IsUtf8 c.args.self.now = subst (λ (t : List ℕ). IsUtf8 t) same c.as_bytes-bytes.ensures.utf8 in
    omega (
      arith,
      units-boundary c.args.self.now c.args.start utf8 c.requires.boundary,
      c.units_before.ensures,
      ap length same,
      c.as_bytes-bytes.type_inv.0,
    )

pub last_up_to-mark-requires-clause-ordered : goal.last_up_to-mark-requires-clause-ordered
last_up_to-mark-requires-clause-ordered g c = marks-ordered _ _ _ c.marks-marks.ensures

pub overflow_mul-mark : goal.overflow_mul-mark
overflow_mul-mark g c =
    let same : c.as_bytes-bytes.result.now ≡ c.args.self.now = c.as_bytes-bytes.ensures.value ∙ c.self.view_is in
    omega (
      arith,
      (mark-units _ _ c.last_up_to-mark.result c.marks-marks.ensures
          c.last_up_to-mark.ensures.within).1,
      ap length same,
      c.as_bytes-bytes.type_inv.0,
    )

pub returns-then-mark-end-clause-fits : goal.returns-then-mark-end-clause-fits
returns-then-mark-end-clause-fits g c =
    let mark = mark-units _ _ c.last_up_to-mark.result c.marks-marks.ensures c.last_up_to-mark.ensures.within in
    whole-part-fits c.args.self.now c.args.start c.args.end (c.last_up_to-mark.result * 64)
    (c.units_before.result + c.args.column) c.args.column c.units_before.result
    (omega arith) (omega arith) (omega (arith, mark.0, c.last_up_to-mark.ensures.up_to)) c.units_before.ensures refl

pub returns-clause-fits : goal.returns-clause-fits
returns-clause-fits g c =
    let mark = mark-units _ _ c.last_up_to-mark.result c.marks-marks.ensures c.last_up_to-mark.ensures.within in
    let from = from-units c.args.self.now (c.last_up_to-mark.result * 64) c.args.start c.max-from.result
    (c.units_before.result + c.args.column) c.max-from.ensures
    (omega (arith, mark.0, c.last_up_to-mark.ensures.up_to)) (omega (arith, c.units_before.ensures)) in
    room-fits c.args.self.now c.as_bytes-bytes.result.now c.args.start c.args.end c.max-from.result c.args.column
    c.units_before.result c.units_before-2.result
    (c.units_before.result + c.args.column - c.units_before-2.result) c.fitting.result (record {
      same = c.as_bytes-bytes.ensures.value ∙ c.self.view_is;
      start_units = c.units_before.ensures;
      from_units = c.units_before-2.ensures;
      enough = omega (arith, from.0, c.units_before-2.ensures);
      is = refl;
      after = from.1;
      upto = omega (arith, c.max-from.ensures);
      inside = c.requires.within;
      within = c.fitting.ensures.within;
      fits = c.fitting.ensures.fits;
      full = c.fitting.ensures.full;
    })

pub returns-clause-full : goal.returns-clause-full
returns-clause-full g c =
    let mark = mark-units _ _ c.last_up_to-mark.result c.marks-marks.ensures c.last_up_to-mark.ensures.within in
    let from = from-units c.args.self.now (c.last_up_to-mark.result * 64) c.args.start c.max-from.result
    (c.units_before.result + c.args.column) c.max-from.ensures
    (omega (arith, mark.0, c.last_up_to-mark.ensures.up_to)) (omega (arith, c.units_before.ensures)) in
    room-full c.args.self.now c.as_bytes-bytes.result.now c.args.start c.args.end c.max-from.result c.args.column
    c.units_before.result c.units_before-2.result
    (c.units_before.result + c.args.column - c.units_before-2.result) c.fitting.result (record {
      same = c.as_bytes-bytes.ensures.value ∙ c.self.view_is;
      start_units = c.units_before.ensures;
      from_units = c.units_before-2.ensures;
      enough = omega (arith, from.0, c.units_before-2.ensures);
      is = refl;
      after = from.1;
      upto = omega (arith, c.max-from.ensures);
      inside = c.requires.within;
      within = c.fitting.ensures.within;
      fits = c.fitting.ensures.fits;
      full = c.fitting.ensures.full;
    })

pub returns-then-is_empty-clause-fits : goal.returns-then-is_empty-clause-fits
returns-then-is_empty-clause-fits g c =
    let ascii = c.marks-marks.ensures.none (no-marks _ _ c.is_empty.ensures c.if-is_empty.true) in
    omega (
      arith,
      ascii-slice c.args.self.now c.args.start c.args.column ascii
          (omega (arith, c.requires.short, c.requires.within)),
    )

pub returns-then-is_empty-clause-full : goal.returns-then-is_empty-clause-full
returns-then-is_empty-clause-full g c =
    let ascii = c.marks-marks.ensures.none (no-marks _ _ c.is_empty.ensures c.if-is_empty.true) in
    λ less. omega (
      arith,
      ascii-slice c.args.self.now c.args.start c.args.column ascii (omega (arith, c.requires.short, c.requires.within)),
      ascii-unit c.args.self.now (c.args.start + c.args.column) ascii,
    )
