use Rattle.std.proofs.Common.{◌≡◌, ◌+◌, ◌<◌, ◌≤◌, List, ℕ, length, take, ap, subst, sym, ◌∙◌, arith}
use Rattle.std.proofs.lemmas.Str.{IsUtf8-had}
use Rattle.std.specs.Str.{IsUtf8, IsCharBoundary}
use Rattle.line_index.proofs.LineIndex.offset.Goals as goal
use Rattle.line_index.proofs.OffsetLemmas.{is-line, end-boundary, at-end, at-floor, at-units, units-boundary}
use Rattle.line_index.proofs.TextLemmas.{beyond}
use Rattle.line_index.specs.Lines.{line_at}
use Rattle.line_index.specs.Positions.{units, offset_of}
use Rattle.line_index.specs.declared.PositionEncoding.{PositionEncoding}

pub returns-then-position-len-clause-position : goal.returns-then-position-len-clause-position
returns-then-position-len-clause-position g c =
    let utf8 : IsUtf8 c.args.self.now = subst IsUtf8 c.self.view_is (IsUtf8-had _ c.self.invariant.utf8) in
    let less : line_at c.args.self.now (length c.args.self.now) < c.args.position.line = subst
    (λ (t : List ℕ). line_at t (length t) < c.args.position.line) c.self.view_is
    (omega (arith, c.self.invariant.starts.all)) in
    ap (λ (n : ℕ). length (units c.args.encoding (take n c.args.self.now)))
    (ap length (c.as_bytes-bytes.ensures.value ∙ c.self.view_is))
    ∙ beyond c.args.encoding c.args.self.now c.args.position.line c.args.position.column utf8 less

pub overflow_add-end : goal.overflow_add-end
overflow_add-end g c =
    let l = is-line _ c.args.self.now _ c.line_text.result.now c.args.position.line c.index-start.result.now
    c.self.view_is c.self.invariant.starts
    (IsUtf8-had _ c.self.invariant.utf8) (omega arith) c.index-start.ensures c.line_text.ensures in
    omega (arith, l.within, ap length (c.as_bytes-bytes.ensures.value ∙ c.self.view_is), c.as_bytes-bytes.type_inv.0)

pub returns-then-position-end-clause-boundary : goal.returns-then-position-end-clause-boundary
returns-then-position-end-clause-boundary g c =
    let l = is-line _ c.args.self.now _ c.line_text.result.now c.args.position.line c.index-start.result.now
    c.self.view_is c.self.invariant.starts
    (IsUtf8-had _ c.self.invariant.utf8) (omega arith) c.index-start.ensures c.line_text.ensures in
    end-boundary _ _ _ _ l

pub returns-then-position-end-clause-position : goal.returns-then-position-end-clause-position
returns-then-position-end-clause-position g c =
    let l = is-line _ c.args.self.now _ c.line_text.result.now c.args.position.line c.index-start.result.now
    c.self.view_is c.self.invariant.starts
    (IsUtf8-had _ c.self.invariant.utf8) (omega arith) c.index-start.ensures c.line_text.ensures in
    at-end c.args.encoding c.args.self.now c.index-start.result.now
    (c.index-start.result.now + length c.line_text.result.now) c.args.position.line
    c.args.position.column l (omega arith)

pub overflow_add-start : goal.overflow_add-start
overflow_add-start g c =
    let l = is-line _ c.args.self.now _ c.line_text.result.now c.args.position.line c.index-start.result.now
    c.self.view_is c.self.invariant.starts
    (IsUtf8-had _ c.self.invariant.utf8) (omega arith) c.index-start.ensures c.line_text.ensures in
    omega (arith, l.within, ap length (c.as_bytes-bytes.ensures.value ∙ c.self.view_is), c.as_bytes-bytes.type_inv.0)

pub column_end-requires-clause-within : goal.column_end-requires-clause-within
column_end-requires-clause-within g c =
    let l = is-line _ c.args.self.now _ c.line_text.result.now c.args.position.line c.index-start.result.now
    c.self.view_is c.self.invariant.starts
    (IsUtf8-had _ c.self.invariant.utf8) (omega arith) c.index-start.ensures c.line_text.ensures in
    l.within

pub column_end-requires-clause-boundary : goal.column_end-requires-clause-boundary
column_end-requires-clause-boundary g c =
    let l = is-line _ c.args.self.now _ c.line_text.result.now c.args.position.line c.index-start.result.now
    c.self.view_is c.self.invariant.starts
    (IsUtf8-had _ c.self.invariant.utf8) (omega arith) c.index-start.ensures c.line_text.ensures in
    l.boundary

pub returns-in-Utf8-clause-boundary : goal.returns-in-Utf8-clause-boundary
returns-in-Utf8-clause-boundary g c = rw (sym c.self.view_is) c.floor_char_boundary.ensures.boundary

pub returns-in-Utf8-clause-position : goal.returns-in-Utf8-clause-position
returns-in-Utf8-clause-position g c =
    let l = is-line _ c.args.self.now _ c.line_text.result.now c.args.position.line c.index-start.result.now
    c.self.view_is c.self.invariant.starts
    (IsUtf8-had _ c.self.invariant.utf8) (omega arith) c.index-start.ensures c.line_text.ensures in
    let boundary = subst (λ (t : List ℕ). IsCharBoundary t c.floor_char_boundary.result) c.self.view_is
    c.floor_char_boundary.ensures.boundary in
    let nearest = subst (λ (t : List ℕ). (i : ℕ) → c.floor_char_boundary.result < i
    → i ≤ c.index-start.result.now + c.args.position.column → IsCharBoundary t i
    → ⊥) c.self.view_is c.floor_char_boundary.ensures.nearest in
    subst (λ (e : PositionEncoding). length (units e (take c.floor_char_boundary.result c.args.self.now))
    ≡ offset_of e (units e c.args.self.now) c.args.position) (sym c.in-Utf8.is)
    (at-floor c.args.self.now c.index-start.result.now (c.index-start.result.now + length c.line_text.result.now)
    c.args.position.line c.args.position.column
    c.floor_char_boundary.result l (omega arith) c.floor_char_boundary.ensures.bound boundary nearest)

pub returns-in-Utf16-clause-boundary : goal.returns-in-Utf16-clause-boundary
returns-in-Utf16-clause-boundary g c =
    let l = is-line _ c.args.self.now _ c.line_text.result.now c.args.position.line c.index-start.result.now
    c.self.view_is c.self.invariant.starts
    (IsUtf8-had _ c.self.invariant.utf8) (omega arith) c.index-start.ensures c.line_text.ensures in
    units-boundary _ _ _ _ c.args.position.column _ l c.column_end.ensures.to c.column_end.ensures.fits
    c.column_end.ensures.full

pub returns-in-Utf16-clause-position : goal.returns-in-Utf16-clause-position
returns-in-Utf16-clause-position g c =
    let l = is-line _ c.args.self.now _ c.line_text.result.now c.args.position.line c.index-start.result.now
    c.self.view_is c.self.invariant.starts
    (IsUtf8-had _ c.self.invariant.utf8) (omega arith) c.index-start.ensures c.line_text.ensures in
    subst (λ (e : PositionEncoding). length (units e (take c.column_end.result c.args.self.now))
    ≡ offset_of e (units e c.args.self.now) c.args.position)
    (sym c.in-Utf16.is)
    (at-units c.args.self.now c.index-start.result.now (c.index-start.result.now + length c.line_text.result.now)
    c.args.position.line c.args.position.column
    c.column_end.result l c.column_end.ensures.from c.column_end.ensures.to c.column_end.ensures.fits
    c.column_end.ensures.full)
