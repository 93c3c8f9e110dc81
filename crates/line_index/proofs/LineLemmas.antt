-- Lines by their offsets.
use Rattle.std.proofs.Common.{◌≡◌, ℕ, zero, suc, ◌+◌, ◌-◌, ◌<◌, ◌≤◌, true, false, not, List, length, take, drop, refl}
use Rattle.std.proofs.Common.{sym, ap, ◌∙◌, subst, inl, inr, arith, eqb, eqb-true, leb, get_or, Some, None, length-drop}
use Rattle.std.proofs.lemmas.Bool.{cases_Bool, cases_lt, false_from_ne_true, and_parts, or_left, leb-true, leb-false}
use Rattle.std.proofs.lemmas.Bool.{not_from_false, not_from_true}
use Rattle.std.proofs.lemmas.Bool.Decides.{nat_tests}
use Rattle.std.proofs.lemmas.List.{take_all, take_rest, get_or-drop, get_or_past, get_or_read}
use Rattle.std.proofs.lemmas.List.Sorted.{IsNonDecreasingBy-from_default}
use Rattle.std.proofs.lemmas.List.Sums.{prefix_len_is}
use Rattle.std.proofs.lemmas.Str.{IsCharBoundary-after_ascii, IsCharBoundary-start}
use Rattle.std.specs.List.{take_while, prefix_len}
use Rattle.std.specs.List.Sorted.{IsNonDecreasing, IsPartitionPoint}
use Rattle.std.specs.Prelude.{slice_index, ◌&&◌, ◌||◌}
use Rattle.std.specs.Str.{IsUtf8, IsCharBoundary}
use Rattle.memchr.specs.Find.{IsFirstByte, is_byte2}
use Rattle.lexical_grammar.specs.Characters.{is_line_terminator}
use Rattle.line_index.specs.LineStarts.{AreStarts, IsNextStart}
use Rattle.line_index.specs.Lines.{begins_line, line_at, line_start}

-- one offset further
begun : (text : List ℕ) (k : ℕ) → begins_line text (suc k) ≡ true
    → (line_at text (suc k) ≡ line_at text k + 1) × (line_start text (suc k) ≡ suc k)
begun text k h = (rw h refl, rw h refl)

not-begun : (text : List ℕ) (k : ℕ) → begins_line text (suc k) ≡ false
    → (line_at text (suc k) ≡ line_at text k) × (line_start text (suc k) ≡ line_start text k)
not-begun text k h = (rw h refl, rw h refl)

at-step : (text : List ℕ) (k : ℕ) → line_at text k ≤ line_at text (suc k)
at-step text k = elim (cases_Bool (begins_line text (suc k))) [
  | inl h ↦ omega (arith, (begun text k h).0)
  | inr h ↦ omega (arith, (not-begun text k h).0)
]

pub start-le : (text : List ℕ) (k : ℕ) → line_start text k ≤ k
start-le text zero = omega arith
start-le text (suc k) = elim (cases_Bool (begins_line text (suc k))) [
  | inl h ↦ omega (arith, (begun text k h).1)
  | inr h ↦ omega (arith, (not-begun text k h).1, start-le text k)
]

-- a later offset is in no earlier line
mono : (text : List ℕ) (i j : ℕ) → i ≤ j → line_at text i ≤ line_at text j
mono text i zero h = (let e : i ≡ 0 = omega arith in
    subst (λ (k : ℕ). line_at text k ≤ line_at text 0) (sym e) (omega arith))
mono text i (suc j) h = elim (cases_lt j i) [
  | inl lt ↦ (let e : i ≡ suc j = omega arith in
      subst (λ (k : ℕ). line_at text k ≤ line_at text (suc j)) (sym e) (omega arith))
  | inr ge ↦ omega (arith, mono text i j ge, at-step text j)
]

-- two offsets in one line have its start
pub same-start : (text : List ℕ) (i j : ℕ) → i ≤ j → line_at text j ≡ line_at text i
    → line_start text j ≡ line_start text i
same-start text i zero h e = (let z : i ≡ 0 = omega arith in ap (line_start text) (sym z))
same-start text i (suc j) h e = elim (cases_lt j i) [
  | inl lt ↦ (let z : i ≡ suc j = omega arith in ap (line_start text) (sym z))
  | inr ge ↦ elim (cases_Bool (begins_line text (suc j))) [
    | inl b ↦ absurd (omega (arith, (begun text j b).0, mono text i j ge, e))
    | inr b ↦ (not-begun text j b).1 ∙ same-start text i j ge (sym (not-begun text j b).0 ∙ e)
  ]
]

-- where no line begins, the line stays
quiet : (text : List ℕ) (i j : ℕ) → i ≤ j → ((k : ℕ) → i ≤ k → k < j → begins_line text (suc k) ≡ false)
    → line_at text j ≡ line_at text i
quiet text i zero h none = (let z : i ≡ 0 = omega arith in ap (line_at text) (sym z))
quiet text i (suc j) h none = elim (cases_lt j i) [
  | inl lt ↦ (let z : i ≡ suc j = omega arith in ap (line_at text) (sym z))
  | inr ge ↦ (not-begun text j (none j ge (omega arith))).0 ∙ quiet text i j ge (λ k low high. none k low (omega arith))
]

-- a byte that ends no line
plain : (text : List ℕ) (k : ℕ) → is_line_terminator (slice_index text k) ≡ false → begins_line text (suc k) ≡ false
plain text k h = grind (arith, nat_tests)

-- up to the first line terminator after an offset, and to the end where there is none
clear-after : (text : List ℕ) (offset k : ℕ) → offset ≤ k
    → (is_line_terminator (slice_index (drop offset text) (k - offset)) ≡ true → ⊥)
    → begins_line text (suc k) ≡ false
clear-after text offset k low clear =
    let at : offset + (k - offset) ≡ k = omega arith in
    let here : slice_index (drop offset text) (k - offset) ≡ slice_index text k =
    get_or-drop offset text (k - offset) 0 ∙ ap (slice_index text) at in
    plain text k (false_from_ne_true _ (λ h. clear (ap is_line_terminator here ∙ h)))

pub to-terminator : (text : List ℕ) (offset i : ℕ) → offset ≤ length text
    → IsFirstByte (is_byte2 10 13) (take (length text - offset) (drop offset text)) (Some i)
    → (offset + i < length text) × (is_line_terminator (slice_index text (offset + i)) ≡ true)
    × (line_at text (offset + i) ≡ line_at text offset)
to-terminator text offset i within f =
    let g : IsFirstByte (is_byte2 10 13) (drop offset text) (Some i) =
    subst (λ b. IsFirstByte (is_byte2 10 13) b (Some i)) (take_rest text offset) f in
    let here : slice_index (drop offset text) i ≡ slice_index text (offset + i) = get_or-drop offset text i 0 in (
      omega (arith, g.0.high, length-drop offset text),
      sym (ap is_line_terminator here) ∙ g.1,
      quiet text offset (offset + i) (omega arith)
          (λ k low high. clear-after text offset k low (g.0.before (k - offset) (omega arith) (omega arith))),
    )

pub to-end : (text : List ℕ) (offset : ℕ) → offset ≤ length text
    → IsFirstByte (is_byte2 10 13) (take (length text - offset) (drop offset text)) None
    → line_at text (length text) ≡ line_at text offset
to-end text offset within f =
    let g : IsFirstByte (is_byte2 10 13) (drop offset text) None =
    subst (λ b. IsFirstByte (is_byte2 10 13) b None) (take_rest text offset) f in
    quiet text offset (length text) within
    (λ k low high. clear-after text offset k low
    (g (k - offset) (omega arith) (omega (arith, length-drop offset text))))

-- after a line terminator
next-start : (text : List ℕ) (offset e : ℕ) → offset ≤ e → e < length text → line_at text e ≡ line_at text offset
    → begins_line text (suc e) ≡ true
    → IsNextStart text offset (suc e)
next-start text offset e low within same b = record {
  after = omega arith;
  within = omega arith;
  begins = (begun text e b).1;
  number = (begun text e b).0 ∙ ap (λ (n : ℕ). n + 1) same;
}

ends-line : (a b : ℕ) → is_line_terminator a ≡ true → (eqb a 13 && eqb b 10) ≡ false
    → (eqb a 10 || (eqb a 13 && not (eqb b 10))) ≡ true
ends-line a b t n = grind (arith, nat_tests)

pub after-one : (text : List ℕ) (offset e : ℕ) → offset ≤ e → e < length text → line_at text e ≡ line_at text offset
    → is_line_terminator (slice_index text e) ≡ true
    → (eqb (slice_index text e) 13 && eqb (slice_index text (e + 1)) 10) ≡ false → IsNextStart text offset (e + 1)
after-one text offset e low within same t cr =
    let more : e + 1 ≡ suc e = omega arith in
    let cr' : (eqb (slice_index text e) 13 && eqb (slice_index text (suc e)) 10)
    ≡ false = sym (ap (λ (k : ℕ). eqb (slice_index text e) 13 && eqb (slice_index text k) 10) more) ∙ cr in
    subst (λ (k : ℕ). IsNextStart text offset k) (sym more) (next-start text offset e low within same
    (ends-line (slice_index text e) (slice_index text (suc e)) t cr'))

inside : (a b : ℕ) → (eqb a 13 && eqb b 10) ≡ true → (eqb a 10 || (eqb a 13 && not (eqb b 10))) ≡ false
inside a b h = grind (arith, nat_tests)

pub after-two : (text : List ℕ) (offset e : ℕ) → offset ≤ e → e < length text → line_at text e ≡ line_at text offset
    → (eqb (slice_index text e) 13 && eqb (slice_index text (e + 1)) 10) ≡ true → IsNextStart text offset (e + 2)
after-two text offset e low within same crlf =
    let more : e + 1 ≡ suc e = omega arith in
    let two : e + 2 ≡ suc (suc e) = omega arith in
    let h : (eqb (slice_index text e) 13 && eqb (slice_index text (suc e)) 10)
    ≡ true = sym (ap (λ (k : ℕ). eqb (slice_index text e) 13 && eqb (slice_index text k) 10) more) ∙ crlf in
    let lf : eqb (slice_index text (suc e)) 10 ≡ true =
    (and_parts (eqb (slice_index text e) 13) (eqb (slice_index text (suc e)) 10) h).1 in
    let stays : line_at text (suc e) ≡ line_at text e =
    (not-begun text e (inside (slice_index text e) (slice_index text (suc e)) h)).0 in
    let some : suc e < length text = elim (cases_lt (suc e) (length text)) [
      | inl lt ↦ lt
      | inr ge ↦ absurd (omega (arith, get_or_past text (suc e) 0 ge, eqb-true (slice_index text (suc e)) 10 lf))
    ] in
    subst (λ (k : ℕ). IsNextStart text offset k) (sym two)
    (next-start text offset (suc e) (omega arith) some (stays ∙ same)
    (or_left (eqb (slice_index text (suc e)) 10) _ lf))

-- the starts in order
pub numbered-ordered : (text starts : List ℕ) → ((i : ℕ) → i < length starts → line_at text (slice_index starts i) ≡ i)
    → IsNonDecreasing starts
numbered-ordered text starts number = IsNonDecreasingBy-from_default (λ x. x) starts 0 up where
  up : (i j : ℕ) → i ≤ j → j < length starts → slice_index starts i ≤ slice_index starts j
  up i j le lt = elim (cases_lt (slice_index starts j) (slice_index starts i)) [
    | inl down ↦
        let m = mono text (slice_index starts j) (slice_index starts i) (omega arith) in
        let same : i ≡ j = omega (arith, number i (omega arith), number j lt) in
        absurd (omega (arith, ap (slice_index starts) same))
    | inr ge ↦ ge
  ]

pub starts-ordered : (text : List ℕ) (end : ℕ) (starts : List ℕ) → AreStarts text end starts → IsNonDecreasing starts
starts-ordered text end starts s = numbered-ordered text starts s.number

pub starts-first : (text : List ℕ) (end : ℕ) (starts : List ℕ) → AreStarts text end starts
    → (0 < length starts) × (slice_index starts 0 ≡ 0)
starts-first text end starts s =
    let some : 0 < length starts = omega (arith, s.all) in
    (some, sym (s.begin 0 some) ∙ same-start text 0 (slice_index starts 0) (omega arith) (s.number 0 some))

-- the last start up to an offset is its line's
pub starts-at : (text : List ℕ) (end : ℕ) (starts : List ℕ) (offset i : ℕ) → AreStarts text end starts
    → offset ≤ end → i < length starts
    → slice_index starts i ≤ offset
    → (i + 1 < length starts → offset < slice_index starts (i + 1))
    → (i ≡ line_at text offset) × (slice_index starts i ≡ line_start text offset)
starts-at text end starts offset i s within some low high =
    let up = mono text (slice_index starts i) offset low in
    let top = mono text offset end within in
    let is : i ≡ line_at text offset = elim (cases_lt i (line_at text offset)) [
      | inl below ↦
          let more : i + 1 < length starts = omega (arith, s.all) in
          let past = high more in
          let next = mono text offset (slice_index starts (i + 1)) (omega arith) in
          let same : line_at text (slice_index starts (i + 1)) ≡ line_at text offset =
          omega (arith, s.number (i + 1) more) in
          absurd (omega (
            arith,
            same-start text offset (slice_index starts (i + 1)) (omega arith) same,
            s.begin (i + 1) more,
            start-le text offset,
          ))
      | inr ge ↦ omega (arith, s.number i some)
    ] in (
      is,
      sym (s.begin i some)
          ∙ sym (same-start text (slice_index starts i) offset low (sym is ∙ sym (s.number i some))),
    )

-- the last of the offsets up to one
pub some-up-to : (offsets : List ℕ) (offset n : ℕ) → 0 < length offsets → slice_index offsets 0 ≤ offset
    → IsPartitionPoint (λ y. leb y offset ≡ true) (λ y. leb y offset ≡ false) offsets n → 1 ≤ n
some-up-to offsets offset zero some first p =
    absurd (omega (arith, leb-false (slice_index offsets 0) offset (p.1 0 0 (omega arith) some)))
some-up-to offsets offset (suc n) some first p = omega arith

pub at-up-to : (offsets : List ℕ) (offset n : ℕ) → 1 ≤ n
    → IsPartitionPoint (λ y. leb y offset ≡ true) (λ y. leb y offset ≡ false) offsets n
    → slice_index offsets (n - 1) ≤ offset
at-up-to offsets offset n some p =
    leb-true (slice_index offsets (n - 1)) offset (p.0 (n - 1) 0 (omega arith) (omega arith))

pub past-up-to : (offsets : List ℕ) (offset n : ℕ)
    → IsPartitionPoint (λ y. leb y offset ≡ true) (λ y. leb y offset ≡ false) offsets n → (k : ℕ) → n ≤ k
    → k < length offsets → offset < slice_index offsets k
past-up-to offsets offset n p k low high = leb-false (slice_index offsets k) offset (p.1 k 0 low high)

-- as the code finds it
pub found : (inner text starts slice : List ℕ) (offset i s : ℕ) → inner ≡ text → slice ≡ starts
    → AreStarts inner (length inner) starts → offset ≤ length text
    → i < length slice
    → slice_index slice i ≤ offset → (i + 1 < length slice → offset < slice_index slice (i + 1)) → s ≡ get_or starts i s
    → (i ≡ line_at text offset) × (line_start text offset + (offset - s) ≡ offset)
found inner text starts slice offset i s view items h within some low high read =
    let h' : AreStarts text (length text) slice = subst (λ (t : List ℕ). AreStarts t (length t) slice) view
    (subst (λ (l : List ℕ). AreStarts inner (length inner) l) (sym items) h) in
    let read' : s ≡ get_or slice i s = read ∙ ap (λ (l : List ℕ). get_or l i s) (sym items) in
    let at = starts-at text (length text) slice offset i h' within some low high in
    let is = get_or_read slice i s some read' 0 in
    (at.0, omega (arith, at.1, is))

-- the text in front of the first line terminator
pub first-some : (text bytes : List ℕ) (i : ℕ) → bytes ≡ text → IsFirstByte (is_byte2 10 13) bytes (Some i)
    → take_while (λ c. not (is_line_terminator c)) text ≡ take i text
first-some text bytes i e f =
    let g : IsFirstByte (is_byte2 10 13) text (Some i) = subst (λ b. IsFirstByte (is_byte2 10 13) b (Some i)) e f in
    ap (λ (n : ℕ). take n text) (prefix_len_is (λ c. not (is_line_terminator c)) text i 0 (omega (arith, g.0.high))
    (λ k lt. not_from_false (is_line_terminator (slice_index text k))
    (false_from_ne_true _ (g.0.before k (omega arith) lt)))
    (λ lt. not_from_true (is_line_terminator (slice_index text i)) g.1))

pub first-none : (text bytes : List ℕ) → bytes ≡ text → IsFirstByte (is_byte2 10 13) bytes None
    → take_while (λ c. not (is_line_terminator c)) text ≡ text
first-none text bytes e f =
    let g : IsFirstByte (is_byte2 10 13) text None = subst (λ b. IsFirstByte (is_byte2 10 13) b None) e f in
    let whole : prefix_len (λ c. not (is_line_terminator c)) text ≡ length text =
    prefix_len_is (λ c. not (is_line_terminator c)) text (length text) 0
    (omega arith)
    (λ k lt. not_from_false (is_line_terminator (slice_index text k)) (false_from_ne_true _ (g k (omega arith) lt)))
    (λ lt. absurd (omega arith)) in
    take_all (prefix_len (λ c. not (is_line_terminator c)) text) text (omega arith)

-- a text may be cut where a line begins
small-end : (a b : ℕ) → (eqb a 10 || (eqb a 13 && not (eqb b 10))) ≡ true → a < 128
small-end a b h = grind (arith, nat_tests)

pub start-boundary : (text : List ℕ) (k : ℕ) → IsUtf8 text → k ≤ length text → IsCharBoundary text (line_start text k)
start-boundary text zero u within = IsCharBoundary-start text u
start-boundary text (suc k) u within = elim (cases_Bool (begins_line text (suc k))) [
  | inl b ↦
      let more : k + 1 ≡ suc k = omega arith in
      subst (IsCharBoundary text) (more ∙ sym (begun text k b).1) (IsCharBoundary-after_ascii text k u (omega arith)
      (small-end (slice_index text k) (slice_index text (suc k)) b))
  | inr b ↦ subst (IsCharBoundary text) (sym (not-begun text k b).1) (start-boundary text k u (omega arith))
]

pub column-boundary : (text : List ℕ) (offset column : ℕ) → IsUtf8 text → offset ≤ length text
    → line_start text offset + column ≡ offset
    → IsCharBoundary text (offset - column)
column-boundary text offset column u within c =
    let at : line_start text offset ≡ offset - column = omega arith in
    subst (IsCharBoundary text) at (start-boundary text offset u within)
