-- The sums of weights before an offset, from the marks; and the offset at which the units of UTF-16 reach a number.
use Rattle.std.proofs.Common.{◌⊎◌, ◌≡◌, ℕ, ◌+◌, ◌-◌, ◌*◌, ◌/◌, ◌<◌, ◌≤◌, max, List, [], ◌∷◌, ◌++◌, length, take, drop}
use Rattle.std.proofs.Common.{refl, ap, ◌∙◌, subst, inl, inr, arith, get_or, length-append, length-drop}
use Rattle.std.proofs.Math.Seq.{take-add, get_or-append_seam}
use Rattle.std.proofs.lemmas.Bool.{cases_lt}
use Rattle.std.proofs.lemmas.Bool.Decides.{nat_tests}
use Rattle.std.proofs.lemmas.List.{get_or_append_left, get_or-take, get_or-drop, length-take, take-take}
use Rattle.std.proofs.lemmas.List.Sorted.{IsNonDecreasingBy-from_default}
use Rattle.std.proofs.lemmas.List.Sums.{sum_by-append}
use Rattle.std.proofs.lemmas.Str.{IsUtf8-take}
use Rattle.std.specs.List.{sum_by}
use Rattle.std.specs.List.Sorted.{IsNonDecreasing}
use Rattle.std.specs.Prelude.{Bool, true, false, ◌==◌, slice_index, slice_range}
use Rattle.std.specs.Str.{IsUtf8, IsCharBoundary}
use Rattle.line_index.proofs.ColumnLemmas.{utf16_len-le}
use Rattle.line_index.specs.Columns.{utf16_units, utf16_len}
use Rattle.line_index.specs.Marks.{AreMarks}

-- as the code tests for marks
pub no-marks : (marks : List ℕ) (empty : Bool) → empty ≡ (length marks == 0) → empty ≡ true → length marks ≡ 0
no-marks marks empty is holds = grind (arith, nat_tests)

pub some-marks : (marks : List ℕ) (empty : Bool) → empty ≡ (length marks == 0) → empty ≡ false → 0 < length marks
some-marks marks empty is fails = grind (arith, nat_tests)

-- the sum before an offset and the one from there up to another
pub sum-add : (f : ℕ → ℕ) (text : List ℕ) (n m k : ℕ) → k ≡ n + m
    → sum_by f (take k text) ≡ sum_by f (take n text) + sum_by f (take m (drop n text))
sum-add f text n m k e = ap (λ (i : ℕ). sum_by f (take i text)) e ∙ ap (sum_by f) (take-add n m text)
    ∙ sum_by-append f (take n text) (take m (drop n text))

pub sum-slice : (f : ℕ → ℕ) (text : List ℕ) (n k : ℕ) → n ≤ k
    → sum_by f (take k text) ≡ sum_by f (take n text) + sum_by f (slice_range text n k)
sum-slice f text n k h = sum-add f text n (k - n) k (omega arith)

pub next-mark : (f : ℕ → ℕ) (text : List ℕ) (m u n : ℕ) → u ≡ sum_by f (take (64 * m) text)
    → n ≡ sum_by f (take (m * 64 + 64 - m * 64) (drop (m * 64) text))
    → u + n ≡ sum_by f (take (64 * (m + 1)) text)
next-mark f text m u n eu en =
    let at : 64 * m ≡ m * 64 = omega arith in
    let eu' : u ≡ sum_by f (take (m * 64) text) = eu ∙ ap (λ (i : ℕ). sum_by f (take i text)) at in
    omega (arith, eu', en, sum-add f text (m * 64) (m * 64 + 64 - m * 64) (64 * (m + 1)) (omega arith))

pub one-more : (f : ℕ → ℕ) (text marks : List ℕ) (u m : ℕ) → length marks ≡ m + 1
    → u ≡ sum_by f (take (64 * (m + 1)) text)
    → ((i : ℕ) → i < length marks → get_or marks i 0 ≡ sum_by f (take (64 * i) text)) → (i : ℕ)
    → i < length (marks ++ u ∷ [])
    → get_or (marks ++ u ∷ []) i 0 ≡ sum_by f (take (64 * i) text)
one-more f text marks u m count is each i h = elim (cases_lt i (length marks)) [
  | inl lt ↦ get_or_append_left marks (u ∷ []) 0 i lt ∙ each i lt
  | inr ge ↦
      let at : i ≡ length marks = omega (arith, length-append marks (u ∷ [])) in
      let m' : m + 1 ≡ i = omega arith in
      ap (λ (k : ℕ). get_or (marks ++ u ∷ []) k 0) at ∙ get_or-append_seam marks u [] 0 ∙ is
      ∙ ap (λ (k : ℕ). sum_by f (take (64 * k) text)) m'
]

pub marks-ordered : (f : ℕ → ℕ) (text marks : List ℕ) → AreMarks f text marks → IsNonDecreasing marks
marks-ordered f text marks a = IsNonDecreasingBy-from_default (λ x. x) marks 0 up where
  up : (i j : ℕ) → i ≤ j → j < length marks → slice_index marks i ≤ slice_index marks j
  up i j le lt = omega (
    arith,
    a.sums i (omega arith),
    a.sums j lt,
    sum-add f text (64 * i) (64 * j - 64 * i) (64 * j) (omega arith),
  )

-- as the code finds it
pub before : (f : ℕ → ℕ) (text bytes marks : List ℕ) (offset u : ℕ) → bytes ≡ text → AreMarks f text marks
    → 0 < length marks → offset ≤ length text
    → u ≡ sum_by f (take (offset - offset / 64 * 64) (drop (offset / 64 * 64) bytes))
    → get_or marks (offset / 64) 0 + u ≡ sum_by f (take offset text)
before f text bytes marks offset u same a have within is =
    let some : offset / 64 < length marks = omega (arith, a.all have) in
    let at : 64 * (offset / 64) ≡ offset / 64 * 64 = omega arith in
    let mark : slice_index marks (offset / 64) ≡ sum_by f (take (offset / 64 * 64) text) = a.sums (offset / 64) some
    ∙ ap (λ (i : ℕ). sum_by f (take i text)) at in
    let is' : u ≡ sum_by f (take (offset - offset / 64 * 64) (drop (offset / 64 * 64) text)) = is
    ∙ ap (λ (t : List ℕ). sum_by f (take (offset - offset / 64 * 64) (drop (offset / 64 * 64) t))) same in
    omega (arith, mark, is', sum-add f text (offset / 64 * 64) (offset - offset / 64 * 64) offset (omega arith))

-- in a part of the text
part-index : (text : List ℕ) (from end r : ℕ) → r < length (take (end - from) (drop from text))
    → slice_index (take (end - from) (drop from text)) r ≡ slice_index text (from + r)
part-index text from end r h =
    get_or-take (end - from) (drop from text) r 0 (omega (arith, length-take (end - from) (drop from text)))
    ∙ get_or-drop from text r 0

take-less : (xs : List ℕ) (r k : ℕ) → r ≤ k → utf16_len (take r (take k xs)) ≡ utf16_len (take r xs)
take-less xs r k h = ap utf16_len (take-take r k xs h)

pub part-units : (text : List ℕ) (from end r : ℕ) → r ≤ length (take (end - from) (drop from text))
    → utf16_len (take (from + r) text)
    ≡ utf16_len (take from text) + utf16_len (take r (take (end - from) (drop from text)))
part-units text from end r h =
    omega (
      arith,
      sum-add utf16_units text from r (from + r) refl,
      take-less (drop from text) r (end - from) (omega (arith, length-take (end - from) (drop from text))),
    )

-- a mark up to the units that are wanted
pub mark-units : (text marks : List ℕ) (i : ℕ) → AreMarks utf16_units text marks → i < length marks
    → (slice_index marks i ≡ utf16_len (take (i * 64) text)) × (i * 64 ≤ length text)
mark-units text marks i a h =
    let at : 64 * i ≡ i * 64 = omega arith in
    (a.sums i h ∙ ap (λ (k : ℕ). utf16_len (take k text)) at, omega (arith, a.within))

pub whole-part-fits : (text : List ℕ) (start end mark wanted column s : ℕ) → start ≤ end → end ≤ mark
    → utf16_len (take mark text) ≤ wanted
    → s ≡ utf16_len (take start text) → wanted ≡ s + column
    → utf16_len (slice_range text start end) ≤ column
whole-part-fits text start end mark wanted column s le past up is want =
    omega (arith, sum-slice utf16_units text start end le, sum-slice utf16_units text end mark past)

-- the later of a mark and a start
pub from-units : (text : List ℕ) (mark start from wanted : ℕ) → from ≡ max mark start
    → utf16_len (take mark text) ≤ wanted
    → utf16_len (take start text) ≤ wanted
    → (utf16_len (take from text) ≤ wanted) × (start ≤ from) × (mark ≤ from) × ((from ≡ mark) ⊎ (from ≡ start))
from-units text mark start from wanted is up low = elim (cases_lt mark start) [
  | inl lt ↦ (let e : from ≡ start = omega arith in
      (omega (arith, ap (λ (n : ℕ). utf16_len (take n text)) e), omega arith, omega arith, inr e))
  | inr ge ↦ (let e : from ≡ mark = omega arith in
      (omega (arith, ap (λ (n : ℕ). utf16_len (take n text)) e), omega arith, omega arith, inl e))
]

pub units-boundary : (text : List ℕ) (n : ℕ) → IsUtf8 text → IsCharBoundary text n → utf16_len (take n text) ≤ n
units-boundary text n u b = omega (arith, utf16_len-le (take n text) (IsUtf8-take text n u b), length-take n text)

pub record Room (text bytes : List ℕ) (start end from column s b room r : ℕ) : Type 0 where
  pub same : bytes ≡ text
  pub start_units : s ≡ utf16_len (take start text)
  pub from_units : b ≡ utf16_len (take from text)
  pub enough : b ≤ s + column
  pub is : room ≡ s + column - b
  pub after : start ≤ from
  pub upto : from < end
  pub inside : end ≤ length text
  pub within : r ≤ length (take (end - from) (drop from bytes))
  pub fits : utf16_len (take r (take (end - from) (drop from bytes))) ≤ room
  pub full : r < length (take (end - from) (drop from bytes))
      → room < utf16_len (take r (take (end - from) (drop from bytes))) + utf16_units
      (slice_index (take (end - from) (drop from bytes)) r)

pub room-fits : (text bytes : List ℕ) (start end from column s b room r : ℕ)
    → Room text bytes start end from column s b room r
    → utf16_len (slice_range text start (from + r)) ≤ column
room-fits text bytes start end from column s b room r h =
    let within : r ≤ length (take (end - from) (drop from text)) =
    subst (λ (t : List ℕ). r ≤ length (take (end - from) (drop from t))) h.same h.within in
    let fits : utf16_len (take r (take (end - from) (drop from text))) ≤ room = subst
    (λ (t : List ℕ). utf16_len (take r (take (end - from) (drop from t))) ≤ room) h.same h.fits in
    omega (
      arith,
      part-units text from end r within,
      sum-slice utf16_units text start (from + r) (omega (arith, h.after)),
      h.start_units,
      h.from_units,
      h.is,
      h.enough,
      fits,
    )

pub room-full : (text bytes : List ℕ) (start end from column s b room r : ℕ)
    → Room text bytes start end from column s b room r
    → from + r < end → column
    < utf16_len (slice_range text start (from + r)) + utf16_units (slice_index text (from + r))
room-full text bytes start end from column s b room r h less =
    let within : r ≤ length (take (end - from) (drop from text)) =
    subst (λ (t : List ℕ). r ≤ length (take (end - from) (drop from t))) h.same h.within in
    let len : length (take (end - from) (drop from text)) ≡ end - from = omega (
      arith,
      length-take (end - from) (drop from text),
      length-drop from text,
      h.inside,
    ) in
    let lt : r < length (take (end - from) (drop from text)) = omega (arith, len) in
    let full : room < utf16_len (take r (take (end - from) (drop from text)))
    + utf16_units (slice_index (take (end - from) (drop from text)) r)
    = subst (λ (t : List ℕ). r < length (take (end - from) (drop from t))
    → room < utf16_len (take r (take (end - from) (drop from t))) + utf16_units
    (slice_index (take (end - from) (drop from t)) r)) h.same h.full lt in
    let at : utf16_units (slice_index (take (end - from) (drop from text)) r)
    ≡ utf16_units (slice_index text (from + r)) = ap utf16_units (part-index text from end r lt) in
    omega (
      arith,
      part-units text from end r within,
      sum-slice utf16_units text start (from + r) (omega (arith, h.after)),
      h.start_units,
      h.from_units,
      h.is,
      h.enough,
      full,
      at,
    )
