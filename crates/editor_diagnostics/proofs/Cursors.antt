-- Offsets where a cursor may be.
use Rattle.std.proofs.Common.{◌≡◌, ◌==◌, Bool, true, false, ℕ, zero, suc, ◌≤◌, List, length, min, sym, ◌∙◌, refl, subst}
use Rattle.std.proofs.Common.{inl, inr, arith}
use Rattle.std.proofs.lemmas.Bool.{and_parts, cases_Bool, eqb-true, false≢true}
use Rattle.std.proofs.lemmas.Str.{IsCharBoundary-before_ascii}
use Rattle.std.specs.Prelude.{◌&&◌, if◌then◌else◌, slice_index, take}
use Rattle.std.specs.Str.{IsCharBoundary}
use Rattle.line_index.proofs.OffsetLemmas.{named}
use Rattle.line_index.specs.Positions.{IsCursor, offset_of, units}
use Rattle.line_index.specs.declared.PositionEncoding.{PositionEncoding}
use Rattle.editor_diagnostics.specs.Positions.{IsReadAt, cursor_at, position_in, position_of}

abbrev parted : List ℕ → ℕ → Bool
parted text k = slice_index text k == 13 && slice_index text (suc k) == 10

not_both : (n : ℕ) → n ≡ 13 → n ≡ 10 → ⊥
not_both n a b = omega (arith, a, b)

-- in front of a CR LF a cursor may be
before_both : (text : List ℕ) (k : ℕ) → suc k ≤ length text → parted text k ≡ true → IsCursor text k
before_both text k within both =
    let cr : slice_index text k ≡ 13 = eqb-true (slice_index text k) 13 (and_parts _ _ both).0 in
    record {
      boundary = IsCharBoundary-before_ascii text k (omega arith) (omega (arith, cr));
      apart = λ j is both'. not_both (slice_index text k) cr (eqb-true (slice_index text k) 10 (and_parts _ _ both').1);
    }

elsewhere : (text : List ℕ) (k : ℕ) → IsCharBoundary text (suc k) → parted text k ≡ false → IsCursor text (suc k)
elsewhere text k boundary apart = record {
  boundary = boundary;
  apart = λ j is both.
      (let same : j ≡ k = omega (arith, is) in
      false≢true (sym apart ∙ subst (λ (j : ℕ). (slice_index text j == 13 && slice_index text (suc k) == 10) ≡ true)
      same both));
}

is_cursor : (text : List ℕ) (offset : ℕ) → IsCharBoundary text offset → IsCursor text (cursor_at text offset)
is_cursor text zero boundary =
    record { boundary = boundary; apart = λ j is both. (let never : ⊥ = omega (arith, is) in never) }
is_cursor text (suc k) boundary = elim (cases_Bool (parted text k)) [
  | inl both ↦ subst (λ (b : Bool). IsCursor text (if b then k else suc k)) (sym both)
      (before_both text k boundary.0 both)
  | inr apart ↦ subst (λ (b : Bool). IsCursor text (if b then k else suc k)) (sym apart)
      (elsewhere text k boundary apart)
]

-- a client finds each byte by its position
pub read_at : (encoding : PositionEncoding) (text : List ℕ) (offset : ℕ)
    → IsReadAt encoding text offset (position_of encoding text offset)
read_at encoding text offset = λ utf8 boundary. (
    let within : min offset (length text) ≡ offset = omega (arith, boundary.0) in
    let cursor : IsCursor text (cursor_at text offset) = is_cursor text offset boundary in
    subst (λ (k : ℕ). offset_of encoding (units encoding text) (position_in encoding text (cursor_at text k))
    ≡ length (units encoding (take
    (cursor_at text offset) text))) (sym within)
    (named encoding text (cursor_at text offset) _ _ utf8 cursor.boundary.0 cursor refl refl))
