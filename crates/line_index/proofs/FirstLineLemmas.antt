-- The first lines of a text, and of another that is the same up to an offset.
use Rattle.std.proofs.Common.{◌≡◌, ℕ, zero, suc, ◌+◌, ◌-◌, ◌<◌, ◌≤◌, max, List, length, take, drop}
use Rattle.std.proofs.Common.{refl, sym, ap, ◌∙◌, subst, inl, inr, arith, ltb, not, eqb, true, false, Bool}
use Rattle.std.proofs.lemmas.Bool.{cases_lt, ltb-true}
use Rattle.std.proofs.lemmas.List.{get_or-take, length-take}
use Rattle.std.specs.List.Sorted.{IsPartitionPoint}
use Rattle.std.specs.Prelude.{slice_index, slice_range, take_while, ◌||◌, ◌&&◌, if◌then◌else◌}
use Rattle.std.specs.Str.{IsUtf8}
use Rattle.lexical_grammar.specs.Characters.{is_line_terminator}
use Rattle.line_index.proofs.LineLemmas.{same-start}
use Rattle.line_index.proofs.MarkLemmas.{Room, room-fits, room-full}
use Rattle.line_index.proofs.OffsetLemmas.{IsLine, line-of}
use Rattle.line_index.specs.Columns.{utf16_len, utf16_units}
use Rattle.line_index.specs.LineStarts.{AreFirstStarts}
use Rattle.line_index.specs.Lines.{begins_line, line_at, line_start}

-- the line that begins at an offset
pub line-from : (text part line : List ℕ) (s number : ℕ) → IsUtf8 text → s ≤ length text → line_start text s ≡ s
    → number ≡ line_at text s → part ≡ drop s text
    → line ≡ take_while (λ c. not (is_line_terminator c)) part → IsLine text s (s + length line) number
line-from text part line s number u within begin at cut is = line-of text line number s within begin (sym at) u
    (is ∙ ap (take_while (λ c. not (is_line_terminator c))) (cut ∙ ap (λ (k : ℕ). drop k text) (sym begin)))

-- as many bytes of a part of a text as a column has units
pub fitted : (text bytes : List ℕ) (start end column r : ℕ) → bytes ≡ text → start < end → end ≤ length text
    → r ≤ length (slice_range bytes start end)
    → utf16_len (take r (slice_range bytes start end)) ≤ column
    → (r < length (slice_range bytes start end)
    → column < utf16_len (take r (slice_range bytes start end)) + utf16_units
    (slice_index (slice_range bytes start end) r))
    → (start + r ≤ end) × (utf16_len (slice_range text start (start + r)) ≤ column)
    × (start + r < end → column
    < utf16_len (slice_range text start (start + r)) + utf16_units (slice_index text (start + r)))
fitted text bytes start end column r same some inside within fits full =
    let before : ℕ = utf16_len (take start text) in
    let room : Room text bytes start end start column before before column r = record {
      same = same;
      start_units = refl;
      from_units = refl;
      enough = omega arith;
      is = omega arith;
      after = omega arith;
      upto = some;
      inside = inside;
      within = within;
      fits = fits;
      full = full;
    } in (
      omega (arith, within, length-take (end - start) (drop start bytes)),
      room-fits text bytes start end start column before before column r room,
      room-full text bytes start end start column before before column r room,
    )

-- lines in front of where two texts differ
front : (a b : List ℕ) (p k : ℕ) → take p a ≡ take p b → k < p → slice_index a k ≡ slice_index b k
front a b p k e h = sym (get_or-take p a k 0 h) ∙ ap (λ (l : List ℕ). slice_index l k) e ∙ get_or-take p b k 0 h

ends : ℕ → ℕ → Bool
ends x y = eqb x 10 || (eqb x 13 && not (eqb y 10))

same-lines : (a b : List ℕ) (p k : ℕ) → take p a ≡ take p b → k < p
    → (line_at a k ≡ line_at b k) × (line_start a k ≡ line_start b k)
same-lines a b p zero e h = (refl, refl)
same-lines a b p (suc k) e h =
    let ih = same-lines a b p k e (omega arith) in
    let begins : begins_line a (suc k) ≡ begins_line b (suc k) =
    rw (front a b p k e (omega arith)) (rw (front a b p (suc k) e h) refl) in (
      ap (λ (c : Bool). if c then line_at a k + 1 else line_at a k) begins
          ∙ ap (λ (n : ℕ). if begins_line b (suc k) then n + 1 else n) ih.0,
      ap (λ (c : Bool). if c then suc k else line_start a k) begins
          ∙ ap (λ (n : ℕ). if begins_line b (suc k) then suc k else n) ih.1,
    )

first-start : (text starts : List ℕ) → AreFirstStarts text starts → slice_index starts 0 ≡ 0
first-start text starts s =
    sym (s.begin 0 s.some) ∙ same-start text 0 (slice_index starts 0) (omega arith) (s.number 0 s.some)

-- a line that is kept
kept-one : (old new starts : List ℕ) (offset i : ℕ) → AreFirstStarts old starts
    → take offset new ≡ take offset old → i < length starts
    → slice_index starts i < offset
    → (slice_index starts i ≤ length new) × (line_start new (slice_index starts i) ≡ slice_index starts i)
    × (line_at new (slice_index starts i) ≡ i)
kept-one old new starts offset i s same some low =
    let lines = same-lines new old offset (slice_index starts i) same low in (
      omega (arith, ap length same, length-take offset new, length-take offset old, s.within i some),
      lines.1
          ∙ s.begin i some,
      lines.0 ∙ s.number i some,
    )

kept-first : (old new starts : List ℕ) (i : ℕ) → AreFirstStarts old starts → i ≡ 0 → (slice_index starts i ≤ length new)
    × (line_start new (slice_index starts i) ≡ slice_index starts i) × (line_at new (slice_index starts i) ≡ i)
kept-first old new starts i s is =
    let zero' : slice_index starts i ≡ 0 = ap (slice_index starts) is ∙ first-start old starts s in
    (omega (arith, zero'), ap (line_start new) zero' ∙ sym zero', ap (line_at new) zero' ∙ sym is)

pub kept : (old new starts rest : List ℕ) (offset n : ℕ) → AreFirstStarts old starts → take offset new ≡ take offset old
    → IsPartitionPoint (λ y. ltb y offset ≡ true) (λ y. ltb y offset ≡ false) starts n → rest ≡ take (max n 1) starts
    → AreFirstStarts new rest
kept old new starts rest offset n s same p is = subst (AreFirstStarts new) (sym is) (record {
  some = omega (arith, length-take (max n 1) starts, s.some);
  within = λ i h. (parts i h).0;
  begin = λ i h. (parts i h).1;
  number = λ i h. (parts i h).2;
}) where
  whole : (i : ℕ) → i < length (take (max n 1) starts)
      → (slice_index starts i ≤ length new) × (line_start new (slice_index starts i) ≡ slice_index starts i)
      × (line_at new (slice_index starts i) ≡ i)
  whole i h = elim (cases_lt i n) [
    | inl lt ↦ (let some : i < length starts = omega (arith, length-take (max n 1) starts) in
        kept-one old new starts offset i s same some
        (ltb-true (slice_index starts i) offset (p.0 i 0 (omega arith) lt)))
    | inr ge ↦ kept-first old new starts i s (omega (arith, length-take (max n 1) starts))
  ]

  parts : (i : ℕ) → i < length (take (max n 1) starts) → (slice_index (take (max n 1) starts) i ≤ length new)
      × (line_start new (slice_index (take (max n 1) starts) i) ≡ slice_index (take (max n 1) starts) i)
      × (line_at new (slice_index (take (max n 1) starts) i) ≡ i)
  parts i h = subst (λ (x : ℕ). (x ≤ length new) × (line_start new x ≡ x) × (line_at new x ≡ i))
      (sym (get_or-take (max n 1) starts i 0 (omega (arith, length-take (max n 1) starts)))) (whole i h)
