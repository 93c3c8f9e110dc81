-- The offset of a position in a text.
use Rattle.std.proofs.Common.{◌≡◌, ℕ, zero, suc, ◌+◌, ◌-◌, ◌<◌, ◌≤◌, true, false, not, List, [], ◌∷◌, ◌++◌, length}
use Rattle.std.proofs.Common.{take, drop, refl, sym, ap, ◌∙◌, subst, inl, inr, arith, eqb, length-append, length-drop}
use Rattle.std.proofs.Math.Seq.{take-add}
use Rattle.std.proofs.lemmas.Bool.{cases_Bool, cases_lt, and_parts, false_from_ne_true}
use Rattle.std.proofs.lemmas.Bool.Decides.{nat_tests}
use Rattle.std.proofs.lemmas.Grind.{flat_map-append}
use Rattle.std.proofs.lemmas.List.{take-append-drop, drop-drop, get_or-drop, get_or-take, get_or-append-add}
use Rattle.std.proofs.lemmas.List.{length-take, take_all, get_or_past}
use Rattle.std.proofs.lemmas.List.Concat.{flat_map-cons}
use Rattle.std.proofs.lemmas.Str.{encodes-append, chars-encodes, IsUtf8-take, IsUtf8-drop, IsUtf8-between}
use Rattle.std.specs.List.{flat_map}
use Rattle.std.specs.Prelude.{slice_index, slice_range, ◌&&◌, ◌||◌}
use Rattle.std.specs.Str.{IsUtf8, IsCharBoundary}
use lib.Utf8.{encode, encodes, scalar, scalars}
use Rattle.lexical_grammar.specs.Characters.{is_line_terminator}
use Rattle.line_index.proofs.CharacterLemmas.{all_units, begins-of, quiet-of, one-of, utf16-length, utf8-units}
use Rattle.line_index.proofs.PositionLemmas.{Stops, lands, scalars-both, feed-same, ends-same}
use Rattle.line_index.proofs.WalkLemmas.{walk, walk-is, walk-lines, Quiet, whole-here, at-cons, at-past}
use Rattle.line_index.specs.Lines.{begins_line, line_at, line_start}
use Rattle.line_index.specs.Positions.{units, units_of, continues, ends_line, lines_of, units_before, whole, width}
use Rattle.line_index.specs.Positions.{IsCursor}
use Rattle.line_index.specs.declared.PositionEncoding.{PositionEncoding}
use Rattle.line_index.specs.declared.PositionEncoding.TheVariants.{Utf8, Utf16}

-- a text that spells these characters
spelled-units : (e : PositionEncoding) (cs : List ℕ) → scalars cs ≡ true → units e (encodes cs) ≡ all_units e cs
spelled-units e cs s = ap (flat_map (units_of e)) (chars-encodes cs s)

spelled-width : (e : PositionEncoding) (cs : List ℕ) → width e (encodes cs) ≡ length (all_units e cs)
spelled-width Utf8 cs = ap length (sym (utf8-units cs))
spelled-width Utf16 cs = sym (utf16-length cs)

offset-spelled : (e : PositionEncoding) (ws xs ys : List ℕ) (line column : ℕ) → scalars ws ≡ true
    → scalars xs ≡ true → scalars ys ≡ true
    → begins_line (encodes (ws ++ (xs ++ ys))) (length (encodes ws)) ≡ true
    → line ≡ line_at (encodes (ws ++ (xs ++ ys))) (length (encodes ws)) → Quiet xs
    → length (all_units e xs) ≤ column
    → Stops e (column - length (all_units e xs)) ys
    → length (units e (encodes (ws ++ xs))) ≡ whole e (units e (encodes (ws ++ (xs ++ ys))))
    (units_before (lines_of (units e (encodes (ws ++ (xs ++ ys))))) line column)
offset-spelled e ws xs ys line column sa sx sy b at q fits h =
    let whole-text : units e (encodes (ws ++ (xs ++ ys))) ≡ all_units e (ws ++ (xs ++ ys)) =
    spelled-units e (ws ++ (xs ++ ys))
    (scalars-both ws (xs ++ ys) sa (scalars-both xs ys sx sy)) in
    let front : units e (encodes (ws ++ xs)) ≡ all_units e (ws ++ xs) =
    spelled-units e (ws ++ xs) (scalars-both ws xs sa sx) in
    let u = all_units e (ws ++ (xs ++ ys)) in
    ap length front ∙ sym (lands e ws xs ys column sa sx sy b q fits h)
    ∙ ap (λ (n : ℕ). whole e u (walk u n column)) (sym at)
    ∙ ap (whole e u) (sym (walk-is u line column))
    ∙ ap (λ (v : List ℕ). whole e v (units_before (lines_of v) line column)) (sym whole-text)

-- bytes that end no line spell characters that end none
pub quiet-front : (c : ℕ) (v : List ℕ) → scalar c ≡ true
    → is_line_terminator (slice_index (encode c ++ v) 0) ≡ is_line_terminator c
quiet-front c v s =
    let b = begins-of Utf8 c s in
    ap (λ (u : List ℕ). is_line_terminator (slice_index (u ++ v) 0)) b.are ∙ b.ends

quiet-chars : (cs : List ℕ) → scalars cs ≡ true
    → ((k : ℕ) → k < length (encodes cs) → is_line_terminator (slice_index (encodes cs) k) ≡ false) → Quiet cs
quiet-chars [] s h = tt
quiet-chars (c ∷ cs) s h =
    let sc = and_parts (scalar c) (scalars cs) s in
    let b = begins-of Utf8 c sc.0 in
    let some : 0 < length (encode c) = omega (arith, ap length b.are) in
    let len : length (encode c ++ encodes cs) ≡ length (encode c) + length (encodes cs) =
    length-append (encode c) (encodes cs) in (
      sym (quiet-front c (encodes cs) sc.0) ∙ h 0 (omega arith),
      quiet-chars cs sc.1 (λ k lt. ap is_line_terminator (sym (get_or-append-add (encode c) (encodes cs) k 0))
          ∙ h (length (encode c) + k) (omega arith)),
    )

-- what stops a column, from the text after it
stops : (e : PositionEncoding) (room : ℕ) (ys : List ℕ) → scalars ys ≡ true
    → ((c : ℕ) (zs : List ℕ) → scalar c ≡ true → scalars zs ≡ true → encodes ys ≡ encode c ++ encodes zs
    → is_line_terminator c ≡ false
    → room < length (units_of e c)) → Stops e room ys
stops e room [] s h = tt
stops e room (c ∷ ys) s h = (let sc = and_parts (scalar c) (scalars ys) s in h c ys sc.0 sc.1 refl)

three : (text : List ℕ) (i j : ℕ) → i ≤ j → take i text ++ (take (j - i) (drop i text) ++ drop j text) ≡ text
three text i j le =
    let to : i + (j - i) ≡ j = omega arith in
    let rest : drop (j - i) (drop i text) ≡ drop j text = drop-drop (j - i) i text ∙ ap (λ (n : ℕ). drop n text) to in
    ap (λ (v : List ℕ). take i text ++ (take (j - i) (drop i text) ++ v)) (sym rest)
    ∙ ap (λ (v : List ℕ). take i text ++ v) (take-append-drop (j - i) (drop i text))
    ∙ take-append-drop i text

two : (text : List ℕ) (i j : ℕ) → i ≤ j → take i text ++ take (j - i) (drop i text) ≡ take j text
two text i j le = (let to : i + (j - i) ≡ j = omega arith in
    sym (take-add i (j - i) text) ∙ ap (λ (n : ℕ). take n text) to)

-- a line that begins at `start`, and an offset in it
pub record InLine (e : PositionEncoding) (text : List ℕ) (start offset line column : ℕ) : Type 0 where
  pub utf8 : IsUtf8 text
  pub ordered : start ≤ offset
  pub within : offset ≤ length text
  pub start_boundary : IsCharBoundary text start
  pub offset_boundary : IsCharBoundary text offset
  pub begins : begins_line text start ≡ true
  pub number : line ≡ line_at text start
  pub quiet : (k : ℕ) → start ≤ k → k < offset → is_line_terminator (slice_index text k) ≡ false
  pub fits : width e (slice_range text start offset) ≤ column
  pub stops : (c : ℕ) (zs : List ℕ) → scalar c ≡ true → scalars zs ≡ true → drop offset text ≡ encode c ++ encodes zs
      → is_line_terminator c ≡ false
      → column < width e (slice_range text start offset) + length (units_of e c)

part-byte : (text : List ℕ) (i j k : ℕ) → j ≤ length text → k < j - i
    → slice_index (take (j - i) (drop i text)) k ≡ slice_index text (i + k)
part-byte text i j k within h = get_or-take (j - i) (drop i text) k 0 h ∙ get_or-drop i text k 0

pub found-offset : (e : PositionEncoding) (text : List ℕ) (start offset line column : ℕ)
    → InLine e text start offset line column
    → length (units e (take offset text)) ≡ whole e (units e text) (units_before (lines_of (units e text)) line column)
found-offset e text start offset line column h =
    let a = IsUtf8-take text start h.utf8 h.start_boundary in
    let x = IsUtf8-between text start offset h.utf8 h.ordered h.start_boundary h.offset_boundary in
    let y = IsUtf8-drop text offset h.utf8 h.offset_boundary in
    let eq-a : encodes a.0 ≡ take start text = a.1.1 in
    let eq-x : encodes x.0 ≡ take (offset - start) (drop start text) = x.1.1 in
    let eq-y : encodes y.0 ≡ drop offset text = y.1.1 in
    let eq-xy : encodes (x.0 ++ y.0) ≡ take (offset - start) (drop start text) ++ drop offset text =
    encodes-append x.0 y.0
    ∙ ap (λ (v : List ℕ). v ++ encodes y.0) eq-x
    ∙ ap (λ (v : List ℕ). take (offset - start) (drop start text) ++ v) eq-y in
    let eq-all : encodes (a.0 ++ (x.0 ++ y.0)) ≡ text
    = encodes-append a.0 (x.0 ++ y.0) ∙ ap (λ (v : List ℕ). v ++ encodes (x.0 ++ y.0)) eq-a
    ∙ ap (λ (v : List ℕ). take start text ++ v) eq-xy
    ∙ three text start offset h.ordered in
    let eq-front : encodes (a.0 ++ x.0) ≡ take offset text
    = encodes-append a.0 x.0 ∙ ap (λ (v : List ℕ). v ++ encodes x.0) eq-a
    ∙ ap (λ (v : List ℕ). take start text ++ v) eq-x ∙ two text start offset h.ordered in
    let at : length (encodes a.0) ≡ start = ap length eq-a ∙ (let l : length (take start text)
    ≡ start = omega (arith, length-take start text, h.ordered, h.within) in l) in
    let b : begins_line (encodes (a.0 ++ (x.0 ++ y.0))) (length (encodes a.0)) ≡ true
    = ap (λ (t : List ℕ). begins_line t (length (encodes a.0))) eq-all ∙ ap (begins_line text) at ∙ h.begins in
    let n : line ≡ line_at (encodes (a.0 ++ (x.0 ++ y.0))) (length (encodes a.0))
    = h.number ∙ ap (line_at text) (sym at) ∙ ap (λ (t : List ℕ). line_at t (length (encodes a.0))) (sym eq-all) in
    let len-x : length (encodes x.0) ≡ offset - start =
    ap length eq-x ∙ (let l : length (take (offset - start) (drop start text))
    ≡ offset - start = omega
    (arith, length-take (offset - start) (drop start text), length-drop start text, h.ordered, h.within) in l) in
    let q : Quiet x.0 = quiet-chars x.0 x.1.0 (λ k lt. ap (λ (v : List ℕ). is_line_terminator (slice_index v k)) eq-x
    ∙ ap is_line_terminator (part-byte text start offset k h.within (omega arith))
    ∙ h.quiet (start + k) (omega arith) (omega arith)) in
    let w : width e (slice_range text start offset) ≡ length (all_units e x.0) =
    ap (width e) (sym eq-x) ∙ spelled-width e x.0 in
    let st : Stops e (column - length (all_units e x.0)) y.0 = stops e (column - length (all_units e x.0)) y.0 y.1.0
    (λ c zs sc sz eq plain. omega (arith, w, h.stops c zs sc sz (sym eq-y ∙ eq) plain)) in
    let result = offset-spelled e a.0 x.0 y.0 line column a.1.0 x.1.0 y.1.0 b n q (omega (arith, w, h.fits)) st in
    ap (λ (t : List ℕ). length (units e t)) (sym eq-front) ∙ result
    ∙ ap (λ (t : List ℕ). whole e (units e t) (units_before (lines_of (units e t)) line column))
    eq-all

-- behind the last line
beyond-end : (c : ℕ) (u t : List ℕ) (k line column : ℕ) → eqb (slice_index u 0) 10 ≡ eqb (slice_index t 0) 10
    → line_at (c ∷ t) (suc k) < line
    → ((l : ℕ) → line_at t k < l → walk u l column ≡ length u) → walk (c ∷ u) line column ≡ suc (length u)
beyond-end c u t k zero column feed h ih = absurd (omega arith)
beyond-end c u t k (suc line) column feed h ih = elim (cases_Bool (ends_line c t)) [
  | inl b ↦
      let n : line_at (c ∷ t) (suc k) ≡ 1 + line_at t k = rw b at (at-cons c t k) in
      let b' : ends_line c u ≡ true = ends-same c u t feed ∙ b in
      rw b' (ap suc (ih line (omega arith)))
  | inr b ↦
      let n : line_at (c ∷ t) (suc k) ≡ 0 + line_at t k = rw b at (at-cons c t k) in
      let b' : ends_line c u ≡ false = ends-same c u t feed ∙ b in
      rw b' (ap suc (ih (suc line) (omega arith)))
]

beyond-quiet : (us bytes u t : List ℕ) (k n line column : ℕ) → Quiet us → Quiet bytes → n ≡ length bytes + k
    → line_at (bytes ++ t) n < line
    → ((l : ℕ) → line_at t k < l → walk u l column ≡ length u) → walk (us ++ u) line column ≡ length (us ++ u)
beyond-quiet us bytes u t k n zero column q qb e h ih = absurd (omega arith)
beyond-quiet us bytes u t k n (suc line) column q qb e h ih =
    let more : line_at t k < suc line = omega (arith, at-past bytes t k n e qb) in
    omega (arith, walk-lines us u line column q, ih (suc line) more, length-append us u)

beyond-one : (e : PositionEncoding) (c : ℕ) (u t : List ℕ) (k line column : ℕ) → scalar c ≡ true
    → eqb (slice_index u 0) 10 ≡ eqb (slice_index t 0) 10
    → line_at (encode c ++ t) (length (encode c) + k) < line → ((l : ℕ) → line_at t k < l → walk u l column ≡ length u)
    → walk (units_of e c ++ u) line column ≡ length (units_of e c ++ u)
beyond-one e c u t k line column s feed h ih = elim (cases_Bool (is_line_terminator c)) [
  | inl b ↦
      let one : 1 + k ≡ suc k = omega arith in
      let h' : line_at (c ∷ t) (suc k) < line = subst (λ (n : ℕ). line_at (c ∷ t) n < line) one
      (subst (λ (v : List ℕ). line_at (v ++ t) (length v + k) < line) (one-of Utf8 c b) h) in
      subst (λ (v : List ℕ). walk (v ++ u) line column ≡ length (v ++ u)) (sym (one-of e c b))
      (beyond-end c u t k line column feed h' ih)
  | inr b ↦ beyond-quiet (units_of e c) (encode c) u t k (length (encode c) + k) line column (quiet-of e c b)
      (quiet-of Utf8 c b) refl h ih
]

beyond-lines : (e : PositionEncoding) (cs : List ℕ) (line column : ℕ) → scalars cs ≡ true
    → line_at (encodes cs) (length (encodes cs)) < line
    → walk (all_units e cs) line column ≡ length (all_units e cs)
beyond-lines e [] line column s h = refl
beyond-lines e (c ∷ cs) line column s h =
    let sc = and_parts (scalar c) (scalars cs) s in
    let far : length (encode c ++ encodes cs) ≡ length (encode c) + length (encodes cs) =
    length-append (encode c) (encodes cs) in
    let h' : line_at (encode c ++ encodes cs) (length (encode c) + length (encodes cs)) < line = subst
    (λ (n : ℕ). line_at (encode c ++ encodes cs) n < line) far h in
    subst (λ (v : List ℕ). walk v line column ≡ length v) (sym (flat_map-cons (units_of e) c cs))
    (beyond-one e c (all_units e cs) (encodes cs) (length (encodes cs)) line column sc.0 (feed-same e cs sc.1) h'
    (λ l less. beyond-lines e cs l column sc.1 less))

past-end : (e : PositionEncoding) (u : List ℕ) → whole e u (length u) ≡ length u
past-end e u = whole-here e u (length u) (ap (continues e) (get_or_past u (length u) 0 (omega arith)) ∙ nothing e) where
  nothing : (d : PositionEncoding) → continues d 0 ≡ false
  nothing Utf8 = refl
  nothing Utf16 = refl

take-all : (text : List ℕ) → take (length text) text ≡ text
take-all text = take_all (length text) text (omega arith)

pub beyond : (e : PositionEncoding) (text : List ℕ) (line column : ℕ) → IsUtf8 text → line_at text (length text) < line
    → length (units e (take (length text) text))
    ≡ whole e (units e text) (units_before (lines_of (units e text)) line column)
beyond e text line column u h =
    let eq : encodes u.0 ≡ text = u.1.1 in
    let all : units e text ≡ all_units e u.0 = ap (units e) (sym eq) ∙ spelled-units e u.0 u.1.0 in
    let h' : line_at (encodes u.0) (length (encodes u.0)) < line =
    subst (λ (t : List ℕ). line_at t (length t) < line) (sym eq) h in
    let there : walk (units e text) line column ≡ length (units e text) =
    subst (λ (v : List ℕ). walk v line column ≡ length v) (sym all)
    (beyond-lines e u.0 line column u.1.0 h') in
    ap (λ (t : List ℕ). length (units e t)) (take-all text)
    ∙ sym (past-end e (units e text)) ∙ ap (whole e (units e text)) (sym there)
    ∙ ap (whole e (units e text)) (sym (walk-is (units e text) line column))

-- a cursor has no line's end before it in its line
none-begin : (text : List ℕ) (k offset : ℕ) → line_start text offset ≤ k → k < offset → begins_line text (suc k) ≡ false
none-begin text k zero low high = absurd (omega arith)
none-begin text k (suc offset) low high = elim (cases_Bool (begins_line text (suc offset))) [
  | inl b ↦ (let at : line_start text (suc offset) ≡ suc offset = rw b refl in absurd (omega arith))
  | inr b ↦
      let at : line_start text (suc offset) ≡ line_start text offset = rw b refl in
      elim (cases_lt k offset) [
        | inl lt ↦ none-begin text k offset (omega arith) lt
        | inr ge ↦ (let e : offset ≡ k = omega arith in subst (λ (n : ℕ). begins_line text (suc n) ≡ false) e b)
      ]
]

cr-lf : (a b : ℕ) → is_line_terminator a ≡ true → (eqb a 10 || (eqb a 13 && not (eqb b 10))) ≡ false
    → (eqb a 13 && eqb b 10) ≡ true
cr-lf a b t h = grind (arith, nat_tests)

lf : (a b : ℕ) → (eqb a 13 && eqb b 10) ≡ true → (x : ℕ) → (eqb b 10 || (eqb b 13 && not (eqb x 10))) ≡ false → ⊥
lf a b h x none = grind (arith, nat_tests)

pub cursor-quiet : (text : List ℕ) (offset : ℕ) → IsCursor text offset → (k : ℕ)
    → line_start text offset ≤ k → k < offset
    → is_line_terminator (slice_index text k) ≡ false
cursor-quiet text offset c k low high = false_from_ne_true _ (λ t. (
    let pair : (eqb (slice_index text k) 13 && eqb (slice_index text (suc k)) 10)
    ≡ true = cr-lf (slice_index text k) (slice_index text (suc k)) t (none-begin text k offset low high) in
    elim (cases_lt (suc k) offset) [
      | inl lt ↦ lf (slice_index text k) (slice_index text (suc k)) pair (slice_index text (suc (suc k)))
          (none-begin text (suc k) offset (omega arith) lt)
      | inr ge ↦ (let e : offset ≡ suc k = omega arith in
          c.apart k e (subst (λ (n : ℕ). (eqb (slice_index text k) 13 && eqb (slice_index text n) 10) ≡ true)
          (sym e) pair))
    ]))

pub start-begins : (text : List ℕ) (offset : ℕ) → begins_line text (line_start text offset) ≡ true
start-begins text zero = refl
start-begins text (suc offset) = elim (cases_Bool (begins_line text (suc offset))) [
  | inl b ↦ (let at : line_start text (suc offset) ≡ suc offset = rw b refl in ap (begins_line text) at ∙ b)
  | inr b ↦ (let at : line_start text (suc offset) ≡ line_start text offset = rw b refl in
      ap (begins_line text) at ∙ start-begins text offset)
]

pub start-line : (text : List ℕ) (offset : ℕ) → line_at text offset ≡ line_at text (line_start text offset)
start-line text zero = refl
start-line text (suc offset) = elim (cases_Bool (begins_line text (suc offset))) [
  | inl b ↦ (let at : line_start text (suc offset) ≡ suc offset = rw b refl in sym (ap (line_at text) at))
  | inr b ↦
      let at : line_start text (suc offset) ≡ line_start text offset = rw b refl in
      let same : line_at text (suc offset) ≡ line_at text offset = rw b refl in
      same ∙ start-line text offset ∙ sym (ap (line_at text) at)
]

pub some-unit : (e : PositionEncoding) (c : ℕ) → scalar c ≡ true → 0 < length (units_of e c)
some-unit e c s = (let b = begins-of e c s in omega (arith, ap length b.are))

-- texts that are joined
pub units-append : (e : PositionEncoding) (a b : List ℕ) → IsUtf8 a → IsUtf8 b
    → units e (a ++ b) ≡ units e a ++ units e b
units-append e a b u v =
    let eq : encodes (u.0 ++ v.0) ≡ a ++ b =
    encodes-append u.0 v.0 ∙ ap (λ (t : List ℕ). t ++ encodes v.0) u.1.1 ∙ ap (λ (t : List ℕ). a ++ t) v.1.1 in
    let left : units e a ≡ all_units e u.0 = ap (units e) (sym u.1.1) ∙ spelled-units e u.0 u.1.0 in
    let right : units e b ≡ all_units e v.0 = ap (units e) (sym v.1.1) ∙ spelled-units e v.0 v.1.0 in
    ap (units e) (sym eq) ∙ spelled-units e (u.0 ++ v.0) (scalars-both u.0 v.0 u.1.0 v.1.0)
    ∙ flat_map-append (units_of e) u.0 v.0
    ∙ ap (λ (t : List ℕ). t ++ all_units e v.0) (sym left) ∙ ap (λ (t : List ℕ). units e a ++ t) (sym right)
