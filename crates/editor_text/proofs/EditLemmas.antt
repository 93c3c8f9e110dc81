-- A change of a text in bytes, and in its units.
use Rattle.std.proofs.Common.{◌≡◌, ℕ, ◌+◌, ◌-◌, ◌≤◌, max, List, ◌++◌, length, take, drop, sym, ap, ◌∙◌, subst, inl, inr}
use Rattle.std.proofs.Common.{arith, length-append}
use Rattle.std.proofs.Math.Seq.{take-add}
use Rattle.std.proofs.lemmas.Bool.{cases_lt}
use Rattle.std.proofs.lemmas.List.{take-append-drop, take-append-le, take_at, drop_at, length-take-le}
use Rattle.std.proofs.lemmas.Str.{IsUtf8-take, IsUtf8-drop, IsUtf8-between, IsUtf8-append}
use Rattle.std.specs.List.{replace_range}
use Rattle.std.specs.Prelude.{Some}
use Rattle.std.specs.Str.{IsUtf8, IsCharBoundary}
use Rattle.line_index.proofs.TextLemmas.{units-append}
use Rattle.line_index.specs.Positions.{units, offset_of}
use Rattle.line_index.specs.declared.PositionEncoding.{PositionEncoding}
use Rattle.editor_text.specs.Client.{AreOffsets, replaced}
use Rattle.editor_text.specs.declared.PositionRange.{PositionRange}

-- the units on both sides of an offset
split : (e : PositionEncoding) (text : List ℕ) (k : ℕ) → IsUtf8 text → IsCharBoundary text k
    → units e text ≡ units e (take k text) ++ units e (drop k text)
split e text k u b = ap (units e) (sym (take-append-drop k text))
    ∙ units-append e (take k text) (drop k text) (IsUtf8-take text k u b) (IsUtf8-drop text k u b)

pub front : (e : PositionEncoding) (text : List ℕ) (k i : ℕ) → IsUtf8 text → IsCharBoundary text k
    → length (units e (take k text)) ≡ i
    → take i (units e text) ≡ units e (take k text)
front e text k i u b len =
    ap (λ (v : List ℕ). take i v) (split e text k u b) ∙ take_at (units e (take k text)) (units e (drop k text)) i len

pub back : (e : PositionEncoding) (text : List ℕ) (k i : ℕ) → IsUtf8 text → IsCharBoundary text k
    → length (units e (take k text)) ≡ i
    → drop i (units e text) ≡ units e (drop k text)
back e text k i u b len =
    ap (λ (v : List ℕ). drop i v) (split e text k u b) ∙ drop_at (units e (take k text)) (units e (drop k text)) i len

pub replaced-units : (e : PositionEncoding) (text new : List ℕ) (range : PositionRange) (start end : ℕ)
    → IsUtf8 text → IsUtf8 new
    → AreOffsets e text range start end
    → units e (replace_range text start end new) ≡ replaced e (units e text) (Some range) (units e new)
replaced-units e text new range start end u v h =
    let left : IsUtf8 (take start text) = IsUtf8-take text start u h.starts in
    let right : IsUtf8 (drop end text) = IsUtf8-drop text end u h.ends in
    let i : ℕ = offset_of e (units e text) range.start in
    let j : ℕ = max (offset_of e (units e text) range.start) (offset_of e (units e text) range.end) in
    units-append e (take start text ++ new) (drop end text) (IsUtf8-append (take start text) new left v) right
    ∙ ap (λ (w : List ℕ). w ++ units e (drop end text)) (units-append e (take start text) new left v)
    ∙ ap (λ (w : List ℕ). (w ++ units e new) ++ units e (drop end text))
    (sym (front e text start i u h.starts h.start_offset))
    ∙ ap (λ (w : List ℕ). (take i (units e text) ++ units e new) ++ w) (sym (back e text end j u h.ends h.end_offset))

-- the text in front of a change stays
pub same-front : (text bytes new : List ℕ) (start end : ℕ) → start ≤ length text
    → bytes ≡ replace_range text start end new → take start bytes ≡ take start text
same-front text bytes new start end within is =
    let len : length (take start text) ≡ start = length-take-le start text within in
    ap (take start) is
    ∙ take-append-le start (take start text ++ new) (drop end text)
    (omega (arith, len, length-append (take start text) new))
    ∙ take_at (take start text) new start len

-- a later offset has no fewer units before it
pub mono : (e : PositionEncoding) (text : List ℕ) (a b : ℕ) → IsUtf8 text → a ≤ b → IsCharBoundary text a
    → IsCharBoundary text b
    → length (units e (take a text)) ≤ length (units e (take b text))
mono e text a b u le x y =
    let to : a + (b - a) ≡ b = omega arith in
    let parts : take b text ≡ take a text ++ take (b - a) (drop a text) =
    ap (λ (n : ℕ). take n text) (sym to) ∙ take-add a (b - a) text in
    let both = ap (units e) parts
    ∙ units-append e (take a text) (take (b - a) (drop a text)) (IsUtf8-take text a u x)
    (IsUtf8-between text a b u le x y) in
    omega (arith, ap length both, length-append (units e (take a text)) (units e (take (b - a) (drop a text))))

pub are-offsets : (e : PositionEncoding) (text : List ℕ) (range : PositionRange) (start end later : ℕ) → IsUtf8 text
    → IsCharBoundary text start
    → IsCharBoundary text end
    → length (units e (take start text)) ≡ offset_of e (units e text) range.start
    → length (units e (take end text)) ≡ offset_of e (units e text) range.end
    → later ≡ max end start
    → AreOffsets e text range start later
are-offsets e text range start end later u x y at to is =
    elim (cases_lt end start) [
      | inl lt ↦
          let same : start ≡ later = omega arith in
          let less = mono e text end start u (omega arith) y x in
          record {
            ordered = omega arith;
            starts = x;
            ends = subst (IsCharBoundary text) same x;
            start_offset = at;
            end_offset = ap (λ (n : ℕ). length (units e (take n text))) (sym same) ∙
                (let m : length (units e (take start text))
                ≡ max (offset_of e (units e text) range.start) (offset_of e (units e text) range.end) = omega (
                  arith,
                  at,
                  to,
                  less,
                ) in m);
          }
      | inr ge ↦
          let same : end ≡ later = omega arith in
          let less = mono e text start end u ge x y in
          record {
            ordered = omega arith;
            starts = x;
            ends = subst (IsCharBoundary text) same y;
            start_offset = at;
            end_offset = ap (λ (n : ℕ). length (units e (take n text))) (sym same) ∙
                (let m : length (units e (take end text))
                ≡ max (offset_of e (units e text) range.start) (offset_of e (units e text) range.end) = omega (
                  arith,
                  at,
                  to,
                  less,
                ) in m);
          }
    ]
