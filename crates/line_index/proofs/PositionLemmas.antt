-- The offset of a position, among the characters of a text.
use Rattle.std.proofs.Common.{◌≡◌, ℕ, zero, suc, ◌+◌, ◌-◌, ◌<◌, ◌≤◌, true, false, List, [], ◌∷◌, ◌++◌, length, refl}
use Rattle.std.proofs.Common.{sym, ap, ◌∙◌, subst, inl, inr, arith, eqb, length-append}
use Rattle.std.proofs.lemmas.Bool.{cases_Bool, and_parts}
use Rattle.std.proofs.lemmas.Grind.{flat_map-append}
use Rattle.std.proofs.lemmas.List.Concat.{flat_map-cons}
use Rattle.std.specs.Prelude.{slice_index}
use lib.Utf8.{encode, encodes, scalar, scalars}
use Rattle.lexical_grammar.specs.Characters.{is_line_terminator}
use Rattle.line_index.proofs.CharacterLemmas.{all_units, quiet-of, one-of, begins-of, QuietAll, fresh, first-feed}
use Rattle.line_index.proofs.CharacterLemmas.{utf8-units}
use Rattle.line_index.proofs.WalkLemmas.{walk, Quiet, walk-inside, walk-past, walk-lines, walk-step, walk-terminator}
use Rattle.line_index.proofs.WalkLemmas.{at-cons, begins-rest, begins-past, at-past, positive, whole-past, whole-first}
use Rattle.line_index.specs.Lines.{begins_line, line_at}
use Rattle.line_index.specs.Positions.{units_of, ends_line, whole}
use Rattle.line_index.specs.declared.PositionEncoding.{PositionEncoding}
use Rattle.line_index.specs.declared.PositionEncoding.TheVariants.{Utf8}

-- what follows an offset in a line with this much room: the end of the text, the end of the line, or a character that
-- is wider
abbrev pub Stops : PositionEncoding → ℕ → List ℕ → Type 0
Stops e room [] = Unit {0}
Stops e room (c ∷ cs) = is_line_terminator c ≡ false → room < length (units_of e c)

stop-inside : (e : PositionEncoding) (c : ℕ) (v : List ℕ) (room : ℕ) → scalar c ≡ true → is_line_terminator c ≡ false
    → room < length (units_of e c)
    → whole e (units_of e c ++ v) (walk (units_of e c ++ v) zero room) ≡ 0
stop-inside e c v room s plain h =
    let b = begins-of e c s in
    let walked : walk (units_of e c ++ v) zero room ≡ room =
    walk-inside (units_of e c) v room (quiet-of e c plain) (omega arith) in
    let len : length (units_of e c) ≡ suc (length b.rest) = ap length b.are in
    let none : whole e (b.head ∷ (b.rest ++ v)) room ≡ 0 = whole-first e b.head b.rest v room b.tail (omega arith) in
    ap (whole e (units_of e c ++ v)) walked ∙ ap (λ (u : List ℕ). whole e (u ++ v) room) b.are ∙ none

stop-end : (e : PositionEncoding) (c : ℕ) (us v : List ℕ) (room : ℕ) → us ≡ c ∷ [] → is_line_terminator c ≡ true
    → whole e (us ++ v) (walk (us ++ v) zero room) ≡ 0
stop-end e c us v room one h =
    let at : walk (us ++ v) zero room ≡ 0 =
    ap (λ (u : List ℕ). walk (u ++ v) zero room) one ∙ walk-terminator c v room h in
    ap (whole e (us ++ v)) at

stop : (e : PositionEncoding) (ys : List ℕ) (room : ℕ) → scalars ys ≡ true → Stops e room ys
    → whole e (all_units e ys) (walk (all_units e ys) zero room) ≡ 0
stop e [] room s h = refl
stop e (c ∷ ys) room s h =
    let scalar-c = (and_parts (scalar c) (scalars ys) s).0 in
    subst (λ (u : List ℕ). whole e u (walk u zero room) ≡ 0) (sym (flat_map-cons (units_of e) c ys))
    (elim (cases_Bool (is_line_terminator c)) [
      | inl t ↦ stop-end e c (units_of e c) (all_units e ys) room (one-of e c t) t
      | inr t ↦ stop-inside e c (all_units e ys) room scalar-c t (h t)
    ])

content : (e : PositionEncoding) (a ys : List ℕ) (column : ℕ) → Quiet a → scalars ys ≡ true → length a ≤ column
    → Stops e (column - length a) ys
    → whole e (a ++ all_units e ys) (walk (a ++ all_units e ys) zero column) ≡ length a
content e a ys column q s fits h =
    let walked : walk (a ++ all_units e ys) zero column ≡ length a + walk (all_units e ys) zero (column - length a) =
    walk-past a
    (all_units e ys) column q fits in
    let none = stop e ys (column - length a) s h in
    ap (whole e (a ++ all_units e ys)) walked
    ∙ whole-past e a (all_units e ys) (walk (all_units e ys) zero (column - length a))
    (length a + walk (all_units e ys) zero (column - length a)) refl (fresh e ys s)
    ∙ (let sum : length a + whole e (all_units e ys) (walk (all_units e ys) zero (column - length a))
    ≡ length a = omega (arith, none) in sum)

-- up to the start of a line
pub ends-same : (c : ℕ) (u t : List ℕ) → eqb (slice_index u 0) 10 ≡ eqb (slice_index t 0) 10
    → ends_line c u ≡ ends_line c t
ends-same c u t h = rw h refl

skip-end : (e : PositionEncoding) (c : ℕ) (u t : List ℕ) (k column more rest : ℕ)
    → eqb (slice_index u 0) 10 ≡ eqb (slice_index t 0) 10
    → begins_line (c ∷ t) (suc k) ≡ true → walk u (line_at t k) column ≡ more + rest
    → walk (c ∷ u) (line_at (c ∷ t) (suc k)) column ≡ suc (more + rest)
skip-end e c u t k column more rest feed b ih =
    walk-step c u t (line_at (c ∷ t) (suc k)) (line_at t k) column (ends-same c u t feed) (at-cons c t k)
    (positive (c ∷ t) k b) ∙ ap suc ih

skip-from : (us u : List ℕ) (line column rest : ℕ) → Quiet us → 0 < line → walk u line column ≡ rest
    → walk (us ++ u) line column ≡ length us + rest
skip-from us u zero column rest q some ih = absurd (omega arith)
skip-from us u (suc line) column rest q some ih = walk-lines us u line column q ∙ ap (λ (n : ℕ). length us + n) ih

skip-on : (us u t : List ℕ) (k column rest : ℕ) → Quiet us → 0 < k → begins_line t k ≡ true
    → walk u (line_at t k) column ≡ rest
    → walk (us ++ u) (line_at t k) column ≡ length us + rest
skip-on us u t zero column rest q some b ih = absurd (omega arith)
skip-on us u t (suc k) column rest q some b ih = skip-from us u (line_at t (suc k)) column rest q (positive t k b) ih

skip-lines : (us bytes u t : List ℕ) (k n column rest : ℕ) → Quiet us → Quiet bytes → 0 < length bytes
    → n ≡ length bytes + k
    → begins_line (bytes ++ t) n ≡ true
    → walk u (line_at t k) column ≡ rest → walk (us ++ u) (line_at (bytes ++ t) n) column ≡ length us + rest
skip-lines us bytes u t k n column rest q qb some e b ih =
    let back = begins-past bytes t k n e some qb b in
    ap (λ (l : ℕ). walk (us ++ u) l column) (at-past bytes t k n e qb) ∙ skip-on us u t k column rest q back.0 back.1 ih

skip-one : (e : PositionEncoding) (c : ℕ) (u t : List ℕ) (k column rest : ℕ) → scalar c ≡ true
    → eqb (slice_index u 0) 10 ≡ eqb (slice_index t 0) 10
    → begins_line (encode c ++ t) (length (encode c) + k) ≡ true → walk u (line_at t k) column ≡ rest
    → walk (units_of e c ++ u) (line_at (encode c ++ t) (length (encode c) + k)) column ≡ length (units_of e c) + rest
skip-one e c u t k column rest s feed b ih = elim (cases_Bool (is_line_terminator c)) [
  | inl h ↦
      let bytes : encode c ≡ c ∷ [] = one-of Utf8 c h in
      let own : units_of e c ≡ c ∷ [] = one-of e c h in
      let one : 1 + k ≡ suc k = omega arith in
      let b' : begins_line (c ∷ t) (suc k) ≡ true = subst (λ (n : ℕ). begins_line (c ∷ t) n ≡ true) one
      (subst (λ (l : List ℕ). begins_line (l ++ t) (length l + k) ≡ true) bytes b) in
      let there : walk (c ∷ u) (line_at (c ∷ t) (suc k)) column ≡ suc (0 + rest) =
      skip-end e c u t k column 0 rest feed b'
      (ih ∙ (let z : rest ≡ 0 + rest = omega arith in z)) in
      let there' : walk (c ∷ u) (line_at (c ∷ t) (1 + k)) column ≡ 1 + rest =
      ap (λ (n : ℕ). walk (c ∷ u) (line_at (c ∷ t) n) column) one ∙ there
      ∙ (let z : suc (0 + rest) ≡ 1 + rest = omega arith in z) in
      subst (λ (l : List ℕ). walk (units_of e c ++ u) (line_at (l ++ t) (length l + k)) column
      ≡ length (units_of e c) + rest) (sym bytes)
      (subst (λ (l : List ℕ). walk (l ++ u) (line_at (c ∷ t) (1 + k)) column ≡ length l + rest) (sym own) there')
  | inr h ↦
      let first = begins-of Utf8 c s in
      let len : length (encode c) ≡ suc (length first.rest) = ap length first.are in
      skip-lines (units_of e c) (encode c) u t k (length (encode c) + k) column rest (quiet-of e c h)
      (quiet-of Utf8 c h) (omega arith) refl b ih
]

pub feed-same : (e : PositionEncoding) (cs : List ℕ) → scalars cs ≡ true
    → eqb (slice_index (all_units e cs) 0) 10 ≡ eqb (slice_index (encodes cs) 0) 10
feed-same e cs s = first-feed e cs s ∙ sym (first-feed Utf8 cs s)
    ∙ ap (λ (u : List ℕ). eqb (slice_index u 0) 10) (utf8-units cs)

begins-far : (bytes t : List ℕ) (k n : ℕ) → n ≡ length bytes + suc k → begins_line (bytes ++ t) n ≡ true
    → begins_line t (suc k) ≡ true
begins-far [] t k n e b = (let z : n ≡ suc k = omega arith in subst (λ (m : ℕ). begins_line t m ≡ true) z b)
begins-far (x ∷ bytes) t k zero e b = absurd (omega arith)
begins-far (x ∷ bytes) t k (suc n) e b = begins-far bytes t k n (omega arith) (begins-rest x (bytes ++ t) n b)

begins-back : (bytes t : List ℕ) (c k : ℕ) → bytes ≡ encode c → scalar c ≡ true
    → begins_line (bytes ++ t) (length bytes + k) ≡ true → begins_line t k ≡ true
begins-back bytes t c zero e s b = refl
begins-back bytes t c (suc k) e s b = begins-far bytes t k (length bytes + suc k) (omega arith) b

pub scalars-both : (ws bs : List ℕ) → scalars ws ≡ true → scalars bs ≡ true → scalars (ws ++ bs) ≡ true
scalars-both [] bs p q = q
scalars-both (c ∷ ws) bs p q = (let s = and_parts (scalar c) (scalars ws) p in rw (s.0, scalars-both ws bs s.1 q) refl)

skip : (e : PositionEncoding) (ws bs : List ℕ) (column : ℕ) → scalars ws ≡ true → scalars bs ≡ true
    → begins_line (encodes (ws ++ bs)) (length (encodes ws)) ≡ true
    → walk (all_units e (ws ++ bs)) (line_at (encodes (ws ++ bs)) (length (encodes ws))) column
    ≡ length (all_units e ws) + walk (all_units e bs) zero column
skip e [] bs column sa sb b =
    (let z : walk (all_units e bs) zero column ≡ 0 + walk (all_units e bs) zero column = omega arith in z)
skip e (c ∷ ws) bs column sa sb b =
    let s = and_parts (scalar c) (scalars ws) sa in
    let far : length (encode c ++ encodes ws) ≡ length (encode c) + length (encodes ws) =
    length-append (encode c) (encodes ws) in
    let b' : begins_line (encode c ++ encodes (ws ++ bs)) (length (encode c) + length (encodes ws))
    ≡ true = subst (λ (n : ℕ). begins_line (encode c ++ encodes (ws ++ bs)) n ≡ true) far b in
    let more = skip e ws bs column s.1 sb
    (begins-back (encode c) (encodes (ws ++ bs)) c (length (encodes ws)) refl s.0 b') in
    let both : scalars (ws ++ bs) ≡ true = scalars-both ws bs s.1 sb in
    let one = skip-one e c (all_units e (ws ++ bs)) (encodes (ws ++ bs)) (length (encodes ws)) column
    (length (all_units e ws) + walk (all_units e bs) zero column) s.0 (feed-same e (ws ++ bs) both) b' more in
    let out : all_units e (c ∷ (ws ++ bs)) ≡ units_of e c ++ all_units e (ws ++ bs) =
    flat_map-cons (units_of e) c (ws ++ bs) in
    let len : length (all_units e (c ∷ ws)) ≡ length (units_of e c) + length (all_units e ws) =
    ap length (flat_map-cons (units_of e) c ws)
    ∙ length-append (units_of e c) (all_units e ws) in
    ap (λ (u : List ℕ). walk u (line_at (encode c ++ encodes (ws ++ bs)) (length (encode c ++ encodes ws))) column) out
    ∙ ap (λ (n : ℕ). walk (units_of e c ++ all_units e (ws ++ bs)) (line_at (encode c ++ encodes (ws ++ bs)) n) column)
    far
    ∙ one ∙ (let z : length (units_of e c) + (length (all_units e ws) + walk (all_units e bs) zero column)
    ≡ length (all_units e (c ∷ ws)) + walk (all_units e bs) zero column = omega arith in z)

-- the offset of a position in the line that begins after some characters
pub lands : (e : PositionEncoding) (ws xs ys : List ℕ) (column : ℕ) → scalars ws ≡ true
    → scalars xs ≡ true → scalars ys ≡ true
    → begins_line (encodes (ws ++ (xs ++ ys))) (length (encodes ws)) ≡ true → Quiet xs
    → length (all_units e xs) ≤ column
    → Stops e (column - length (all_units e xs)) ys
    → whole e (all_units e (ws ++ (xs ++ ys)))
    (walk (all_units e (ws ++ (xs ++ ys))) (line_at (encodes (ws ++ (xs ++ ys))) (length (encodes ws))) column)
    ≡ length (all_units e (ws ++ xs))
lands e ws xs ys column sa sx sy b q fits h =
    let walked = skip e ws (xs ++ ys) column sa (scalars-both xs ys sx sy) b in
    let parts : all_units e (ws ++ (xs ++ ys)) ≡ all_units e ws ++ all_units e (xs ++ ys) =
    flat_map-append (units_of e) ws (xs ++ ys) in
    let own : all_units e (xs ++ ys) ≡ all_units e xs ++ all_units e ys = flat_map-append (units_of e) xs ys in
    let line : whole e (all_units e (xs ++ ys)) (walk (all_units e (xs ++ ys)) zero column) ≡ length (all_units e xs)
    = subst (λ (u : List ℕ). whole e u (walk u zero column) ≡ length (all_units e xs)) (sym own)
    (content e (all_units e xs) ys column (QuietAll e xs q) sy fits h) in
    let len : length (all_units e (ws ++ xs)) ≡ length (all_units e ws) + length (all_units e xs) =
    ap length (flat_map-append (units_of e) ws xs)
    ∙ length-append (all_units e ws) (all_units e xs) in
    ap (whole e (all_units e (ws ++ (xs ++ ys)))) walked
    ∙ ap (λ (u : List ℕ). whole e u (length (all_units e ws) + walk (all_units e (xs ++ ys)) zero column)) parts
    ∙ whole-past e (all_units e ws) (all_units e (xs ++ ys)) (walk (all_units e (xs ++ ys)) zero column)
    (length (all_units e ws) + walk (all_units e (xs ++ ys)) zero column) refl
    (fresh e (xs ++ ys) (scalars-both xs ys sx sy))
    ∙ ap (λ (n : ℕ). length (all_units e ws) + n) line ∙ sym len
