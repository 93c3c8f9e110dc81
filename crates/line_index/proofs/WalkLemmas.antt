-- The lines of a list of units, in one walk over it.
use Rattle.std.proofs.Common.{◌≡◌, ℕ, zero, suc, ◌+◌, ◌-◌, ◌<◌, ◌≤◌, min, Bool, true, false, cond, List, [], ◌∷◌, ◌++◌}
use Rattle.std.proofs.Common.{length, refl, sym, ap, ◌∙◌, inl, inr, arith, eqb, zero-add}
use Rattle.std.proofs.lemmas.Bool.{cases_Bool}
use Rattle.std.proofs.lemmas.Bool.Decides.{nat_tests}
use Rattle.std.specs.List.{position_or_len}
use Rattle.std.specs.Prelude.{slice_index}
use Rattle.lexical_grammar.specs.Characters.{is_line_terminator}
use Rattle.line_index.specs.Lines.{begins_line, line_at}
use Rattle.line_index.specs.Positions.{ends_line, in_front, lines_of, units_before, whole, continues}
use Rattle.line_index.specs.declared.PositionEncoding.{PositionEncoding}

abbrev pub walk : List ℕ → ℕ → ℕ → ℕ
walk [] line column = 0
walk (x ∷ xs) zero column = cond (is_line_terminator x) 0 (cond (eqb column 0) 0 (suc (walk xs zero (column - 1))))
walk (x ∷ xs) (suc line) column = suc (walk xs (cond (ends_line x xs) line (suc line)) column)

ender : (x : ℕ) (xs : List ℕ) → ends_line x xs ≡ true → is_line_terminator x ≡ true
ender x xs h = grind (arith, nat_tests)

pub plain-end : (x : ℕ) (xs : List ℕ) → is_line_terminator x ≡ false → ends_line x xs ≡ false
plain-end x xs h = grind (arith, nat_tests)

least : (column : ℕ) → min column 0 ≡ 0
least column = omega arith

step : (column n : ℕ) → min column (1 + n) ≡ cond (eqb column 0) 0 (suc (min (column - 1) n))
step column n = grind (arith, nat_tests)

-- x in front
front-stop : (x : ℕ) (lines : List (List ℕ)) (column : ℕ) → is_line_terminator x ≡ true
    → units_before (in_front x lines) zero column ≡ 0
front-stop x [] column h = rw h (least column)
front-stop x (l ∷ lines) column h = rw h (least column)

front-zero : (x : ℕ) (lines : List (List ℕ)) (column : ℕ) → is_line_terminator x ≡ false
    → units_before (in_front x lines) zero column ≡ cond (eqb column 0) 0 (suc (units_before lines zero (column - 1)))
front-zero x [] column h = rw h (step column 0 ∙ ap (λ (n : ℕ). cond (eqb column 0) 0 (suc n)) (least (column - 1)))
front-zero x (l ∷ lines) column h = rw h (step column (position_or_len is_line_terminator l))

front-suc : (x : ℕ) (lines : List (List ℕ)) (line column : ℕ)
    → units_before (in_front x lines) (suc line) column ≡ suc (units_before lines (suc line) column)
front-suc x [] line column = omega arith
front-suc x (l ∷ lines) line column = omega arith

ended : (x : ℕ) (xs : List ℕ) → ends_line x xs ≡ true
    → ((l k : ℕ) → units_before (lines_of xs) l k ≡ walk xs l k) → (line column : ℕ)
    → units_before (lines_of (x ∷ xs)) line column ≡ walk (x ∷ xs) line column
ended x xs h more zero column = (let t : is_line_terminator x ≡ true = ender x xs h in rw (h, t) (least column))
ended x xs h more (suc line) column = rw h (omega (arith, more line column))

open-line : (x : ℕ) (xs : List ℕ) → ends_line x xs ≡ false
    → ((l k : ℕ) → units_before (lines_of xs) l k ≡ walk xs l k) → (line column : ℕ)
    → units_before (lines_of (x ∷ xs)) line column ≡ walk (x ∷ xs) line column
open-line x xs h more zero column = elim (cases_Bool (is_line_terminator x)) [
  | inl t ↦ rw (h, t) (front-stop x (lines_of xs) column t)
  | inr t ↦ rw (h, t) (front-zero x (lines_of xs) column t
      ∙ ap (λ (n : ℕ). cond (eqb column 0) 0 (suc n)) (more zero (column - 1)))
]
open-line x xs h more (suc line) column = rw h (front-suc x (lines_of xs) line column ∙ ap suc (more (suc line) column))

pub walk-is : (xs : List ℕ) (line column : ℕ) → units_before (lines_of xs) line column ≡ walk xs line column
walk-is [] zero column = least column
walk-is [] (suc line) column = refl
walk-is (x ∷ xs) line column = elim (cases_Bool (ends_line x xs)) [
  | inl h ↦ ended x xs h (λ l k. walk-is xs l k) line column
  | inr h ↦ open-line x xs h (λ l k. walk-is xs l k) line column
]

-- units that end no line
abbrev pub Quiet : List ℕ → Type 0
Quiet [] = Unit {0}
Quiet (x ∷ xs) = (is_line_terminator x ≡ false) × Quiet xs

pub Quiet-append : (xs ys : List ℕ) → Quiet xs → Quiet ys → Quiet (xs ++ ys)
Quiet-append [] ys p q = q
Quiet-append (x ∷ xs) ys p q = (p.0, Quiet-append xs ys p.1 q)

walk-none : (v : List ℕ) → walk v zero 0 ≡ 0
walk-none [] = refl
walk-none (x ∷ v) = elim (cases_Bool (is_line_terminator x)) [ inl h ↦ rw h refl | inr h ↦ rw h refl ]

not-none : (column : ℕ) → 0 < column → eqb column 0 ≡ false
not-none column h = grind (arith, nat_tests)

walk-stop : (x : ℕ) (v : List ℕ) (column : ℕ) → is_line_terminator x ≡ false → 0 < column
    → walk (x ∷ v) zero column ≡ suc (walk v zero (column - 1))
walk-stop x v column h some = (let n : eqb column 0 ≡ false = not-none column some in rw (h, n) refl)

pub walk-terminator : (x : ℕ) (v : List ℕ) (column : ℕ) → is_line_terminator x ≡ true → walk (x ∷ v) zero column ≡ 0
walk-terminator x v column h = rw h refl

walk-to : (us v : List ℕ) (k column : ℕ) → k ≡ column → Quiet us → column ≤ length us → walk (us ++ v) zero k ≡ column
walk-to [] v k column e q h =
    (let z : k ≡ 0 = omega arith in
    ap (λ (n : ℕ). walk v zero n) z ∙ walk-none v ∙ (let w : 0 ≡ column = omega arith in w))
walk-to (x ∷ us) v k zero e q h = ap (λ (n : ℕ). walk ((x ∷ us) ++ v) zero n) e ∙ walk-none ((x ∷ us) ++ v)
walk-to (x ∷ us) v k (suc column) e q h = (let less : k - 1 ≡ column = omega arith in
    walk-stop x (us ++ v) k q.0 (omega arith) ∙ ap suc (walk-to us v (k - 1) column less q.1 (omega arith)))

pub walk-inside : (us v : List ℕ) (column : ℕ) → Quiet us → column ≤ length us → walk (us ++ v) zero column ≡ column
walk-inside us v column q h = walk-to us v column column refl q h

pub walk-past : (us v : List ℕ) (column : ℕ) → Quiet us → length us ≤ column
    → walk (us ++ v) zero column ≡ length us + walk v zero (column - length us)
walk-past [] v column q h =
    (let e : column ≡ column - 0 = omega arith in
    ap (λ (n : ℕ). walk v zero n) e ∙ sym (zero-add (walk v zero (column - 0))))
walk-past (x ∷ us) v column q h =
    let e : (column - 1) - length us ≡ column - suc (length us) = omega arith in
    let one : walk (x ∷ (us ++ v)) zero column ≡ suc (walk (us ++ v) zero (column - 1)) =
    walk-stop x (us ++ v) column q.0 (omega arith) in
    let more : walk (us ++ v) zero (column - 1) ≡ length us + walk v zero ((column - 1) - length us) =
    walk-past us v (column - 1) q.1 (omega arith) in
    let there : walk v zero ((column - 1) - length us) ≡ walk v zero (column - suc (length us)) =
    ap (λ (n : ℕ). walk v zero n) e in
    omega (arith, one, more, there)

pub walk-lines : (us v : List ℕ) (line column : ℕ) → Quiet us
    → walk (us ++ v) (suc line) column ≡ length us + walk v (suc line) column
walk-lines [] v line column q = sym (zero-add (walk v (suc line) column))
walk-lines (x ∷ us) v line column q =
    (let n : ends_line x (us ++ v) ≡ false = plain-end x (us ++ v) q.0 in
    rw n (omega (arith, walk-lines us v line column q.1)))

-- one unit, where the lines of another text go on in the same way
pub walk-step : (x : ℕ) (u t : List ℕ) (n l column : ℕ) → ends_line x u ≡ ends_line x t
    → n ≡ cond (ends_line x t) 1 0 + l → 0 < n
    → walk (x ∷ u) n column ≡ suc (walk u l column)
walk-step x u t zero l column same e some = absurd (omega arith)
walk-step x u t (suc m) l column same e some = elim (cases_Bool (ends_line x t)) [
  | inl h ↦
      let was : suc m ≡ 1 + l = rw h at e in
      let h' : ends_line x u ≡ true = same ∙ h in
      let to : m ≡ l = omega arith in
      rw h' (ap (λ (k : ℕ). suc (walk u k column)) to)
  | inr h ↦
      let was : suc m ≡ 0 + l = rw h at e in
      let h' : ends_line x u ≡ false = same ∙ h in
      let to : suc m ≡ l = omega arith in
      rw h' (ap (λ (k : ℕ). suc (walk u k column)) to)
]

-- the lines behind a unit
pub at-cons : (x : ℕ) (xs : List ℕ) (k : ℕ) → line_at (x ∷ xs) (suc k) ≡ cond (ends_line x xs) 1 0 + line_at xs k
at-cons x xs zero = elim (cases_Bool (ends_line x xs)) [ inl h ↦ rw h refl | inr h ↦ rw h refl ]
at-cons x xs (suc k) = elim (cases_Bool (begins_line xs (suc k))) [
  | inl h ↦ rw h (omega (arith, at-cons x xs k))
  | inr h ↦ rw h (at-cons x xs k)
]

pub begins-rest : (x : ℕ) (xs : List ℕ) (k : ℕ) → begins_line (x ∷ xs) (suc k) ≡ true → begins_line xs k ≡ true
begins-rest x xs zero h = refl
begins-rest x xs (suc k) h = h

pub positive : (text : List ℕ) (k : ℕ) → begins_line text (suc k) ≡ true → 0 < line_at text (suc k)
positive text k h = rw h (omega arith)

pub quiet-at : (us v : List ℕ) (j : ℕ) → Quiet us → j < length us → is_line_terminator (slice_index (us ++ v) j) ≡ false
quiet-at [] v j q h = absurd (omega arith)
quiet-at (x ∷ us) v zero q h = q.0
quiet-at (x ∷ us) v (suc j) q h = quiet-at us v j q.1 (omega arith)

pub at-past : (us v : List ℕ) (k n : ℕ) → n ≡ length us + k → Quiet us → line_at (us ++ v) n ≡ line_at v k
at-past [] v k n e q = (let z : n ≡ k = omega arith in ap (line_at v) z)
at-past (x ∷ us) v k zero e q = absurd (omega arith)
at-past (x ∷ us) v k (suc n) e q =
    let s : ends_line x (us ++ v) ≡ false = plain-end x (us ++ v) q.0 in
    let c : line_at (x ∷ (us ++ v)) (suc n) ≡ cond (ends_line x (us ++ v)) 1 0 + line_at (us ++ v) n =
    at-cons x (us ++ v) n in
    let d : line_at (x ∷ (us ++ v)) (suc n) ≡ 0 + line_at (us ++ v) n = rw s at c in
    omega (arith, d, at-past us v k n (omega arith) q.1)

falsely : (b : Bool) → b ≡ false → b ≡ true → ⊥
falsely b f t = (let x : true ≡ false = sym t ∙ f in cc)

pub begins-past : (us v : List ℕ) (k n : ℕ) → n ≡ length us + k → 0 < length us → Quiet us
    → begins_line (us ++ v) n ≡ true → (0 < k) × (begins_line v k ≡ true)
begins-past [] v k n e some q h = absurd (omega arith)
begins-past (x ∷ us) v k zero e some q h = absurd (omega arith)
begins-past (x ∷ []) v zero (suc n) e some q h =
    (let z : n ≡ 0 = omega arith in absurd (falsely (ends_line x v) (plain-end x v q.0) (rw z at h)))
begins-past (x ∷ []) v (suc k) (suc n) e some q h =
    (let z : n ≡ suc k = omega arith in (omega arith, begins-rest x v (suc k) (rw z at h)))
begins-past (x ∷ (y ∷ us)) v k (suc n) e some q h =
    begins-past (y ∷ us) v k n (omega arith) (omega arith) q.1 (begins-rest x ((y ∷ us) ++ v) n h)

-- where characters begin
pub whole-here : (e : PositionEncoding) (u : List ℕ) (k : ℕ) → continues e (slice_index u k) ≡ false → whole e u k ≡ k
whole-here e u zero h = refl
whole-here e u (suc k) h = rw h refl

here : (a b : List ℕ) (k n : ℕ) → n ≡ length a + k → slice_index (a ++ b) n ≡ slice_index b k
here [] b k n e = (let z : n ≡ k = omega arith in ap (slice_index b) z)
here (x ∷ a) b k zero e = absurd (omega arith)
here (x ∷ a) b k (suc n) e = here a b k n (omega arith)

pub whole-past : (e : PositionEncoding) (a b : List ℕ) (k n : ℕ) → n ≡ length a + k
    → continues e (slice_index b 0) ≡ false
    → whole e (a ++ b) n ≡ length a + whole e b k
whole-past e [] b k n eq h = (let z : n ≡ k = omega arith in ap (whole e b) z ∙ sym (zero-add (whole e b k)))
whole-past e (x ∷ a) b zero n eq h =
    let at : slice_index ((x ∷ a) ++ b) n ≡ slice_index b 0 = here (x ∷ a) b 0 n eq in
    whole-here e ((x ∷ a) ++ b) n (ap (continues e) at ∙ h) ∙ eq
whole-past e (x ∷ a) b (suc k) zero eq h = absurd (omega arith)
whole-past e (x ∷ a) b (suc k) (suc n) eq h =
    let at : slice_index ((x ∷ a) ++ b) (suc n) ≡ slice_index b (suc k) = here (x ∷ a) b (suc k) (suc n) eq in
    let less : n ≡ length (x ∷ a) + k = omega arith in
    elim (cases_Bool (continues e (slice_index b (suc k)))) [
      | inl c ↦
          let c' : continues e (slice_index ((x ∷ a) ++ b) (suc n)) ≡ true = ap (continues e) at ∙ c in
          rw (c, c') (whole-past e (x ∷ a) b k n less h)
      | inr c ↦
          let c' : continues e (slice_index ((x ∷ a) ++ b) (suc n)) ≡ false = ap (continues e) at ∙ c in
          rw (c, c') eq
    ]

-- units that all continue a character
abbrev pub Tail : PositionEncoding → List ℕ → Type 0
Tail e [] = Unit {0}
Tail e (x ∷ xs) = (continues e x ≡ true) × Tail e xs

tail-at : (e : PositionEncoding) (xs v : List ℕ) (k : ℕ) → Tail e xs → k < length xs
    → continues e (slice_index (xs ++ v) k) ≡ true
tail-at e [] v k t h = absurd (omega arith)
tail-at e (x ∷ xs) v zero t h = t.0
tail-at e (x ∷ xs) v (suc k) t h = tail-at e xs v k t.1 (omega arith)

pub whole-first : (e : PositionEncoding) (x : ℕ) (xs v : List ℕ) (k : ℕ) → Tail e xs → k ≤ length xs
    → whole e (x ∷ (xs ++ v)) k ≡ 0
whole-first e x xs v zero t h = refl
whole-first e x xs v (suc k) t h =
    (let c : continues e (slice_index (xs ++ v) k) ≡ true = tail-at e xs v k t (omega arith) in
    rw c (whole-first e x xs v k t (omega arith)))
