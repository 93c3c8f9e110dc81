-- A text has no more characters and units of UTF-16 than bytes.
use Rattle.std.proofs.Common.{◌≡◌, ℕ, ◌+◌, ◌-◌, ◌/◌, ◌%◌, ◌^◌, ◌<◌, ◌≤◌, List, [], ◌∷◌, length, take, drop, refl, suc}
use Rattle.std.proofs.Common.{subst, inl, inr, arith, ltb, length-append, length-drop}
use Rattle.std.proofs.lemmas.Bool.{cases_Bool, ltb-true}
use Rattle.std.proofs.lemmas.Bool.Decides.{nat_tests}
use Rattle.std.proofs.lemmas.List.{length-take}
use Rattle.std.proofs.lemmas.List.Sums.{sum_by-append, sum_by-take-le, sum_by-take-drop, sum_by-cons}
use Rattle.std.proofs.lemmas.List.Sums.{count_by-le-length}
use Rattle.std.proofs.lemmas.Str.{IsAscii-take, IsAscii-drop}
use Rattle.std.specs.List.{sum_by}
use Rattle.std.specs.Prelude.{slice_index, slice_range}
use Rattle.std.specs.Str.{IsUtf8, IsAscii}
use lib.Utf8.{encode, encodes}
use Rattle.line_index.specs.Columns.{begins_character, utf16_units, utf16_len, weight}
use Rattle.line_index.specs.declared.Counted.{Counted}
use Rattle.line_index.specs.declared.Counted.TheVariants.{Characters, Utf16Units}

few : (b : ℕ) → utf16_units b ≤ 2
few b = grind (arith, nat_tests)

ascii : (b : ℕ) → b < 128 → utf16_units b ≤ 1
ascii b h = grind (arith, nat_tests)

later : (c : ℕ) → utf16_units (128 + c % 64) ≡ 0
later c = (let low : c % 64 < 64 = omega arith in grind (arith, nat_tests))

one : (c : ℕ) → utf16_len (encode c) ≤ length (encode c)
unfolding encode
one c = elim (cases_Bool (ltb c 128)) [
  | inl a ↦ rw a (omega (arith, ascii c (ltb-true c 128 a)))
  | inr a ↦ elim (cases_Bool (ltb c 2048)) [
    | inl b ↦ rw (a, b) (omega (arith, few (192 + c / 64), later c))
    | inr b ↦ elim (cases_Bool (ltb c 65536)) [
      | inl d ↦ rw (a, b, d) (omega (arith, few (224 + c / 4096), later (c / 64), later c))
      | inr d ↦ rw (a, b, d) (omega (arith, few (240 + c / 262144), later (c / 4096), later (c / 64), later c))
    ]
  ]
]

all : (cs : List ℕ) → utf16_len (encodes cs) ≤ length (encodes cs)
all [] = omega arith
all (c ∷ cs) = omega (
  arith,
  one c,
  all cs,
  length-append (encode c) (encodes cs),
  sum_by-append utf16_units (encode c) (encodes cs),
)

pub utf16_len-le : (text : List ℕ) → IsUtf8 text → utf16_len text ≤ length text
utf16_len-le text u = subst (λ (t : List ℕ). utf16_len t ≤ length t) u.1.1 (all u.0)

pub weight-le : (c : Counted) (text : List ℕ) → IsUtf8 text → sum_by (weight c) text ≤ length text
weight-le Characters text u = count_by-le-length begins_character text
weight-le Utf16Units text u = utf16_len-le text u

pub weight-small : (c : Counted) (text : List ℕ) (n : ℕ) → IsUtf8 text → length text < 2 ^ 64
    → sum_by (weight c) (take n text) < 2 ^ 64
weight-small c text n u small = omega (arith, weight-le c text u, sum_by-take-drop (weight c) text n)

pub weight-part : (c : Counted) (text : List ℕ) (i j : ℕ) → IsUtf8 text → length text < 2 ^ 64
    → sum_by (weight c) (take j (drop i text)) < 2 ^ 64
weight-part c text i j u small =
    omega (arith, weight-le c text u, sum_by-take-le (weight c) (drop i text) j, sum_by-take-drop (weight c) text i)

-- each byte of a text in ASCII counts one
weight-ascii : (c : Counted) (b : ℕ) → b < 128 → weight c b ≡ 1
weight-ascii Characters b h = grind (arith, nat_tests)
weight-ascii Utf16Units b h = grind (arith, nat_tests)

ascii-sum : (c : Counted) (text : List ℕ) → IsAscii text → sum_by (weight c) text ≡ length text
ascii-sum c [] h = refl
ascii-sum c (x ∷ xs) h =
    omega (arith, sum_by-cons (weight c) x xs, weight-ascii c x (h 0), ascii-sum c xs (λ i. h (suc i)))

pub ascii-before : (c : Counted) (text : List ℕ) (n : ℕ) → IsAscii text → n ≤ length text
    → sum_by (weight c) (take n text) ≡ n
ascii-before c text n h within = omega (arith, ascii-sum c (take n text) (IsAscii-take text n h), length-take n text)

pub ascii-slice : (text : List ℕ) (start column : ℕ) → IsAscii text → start + column ≤ length text
    → utf16_len (slice_range text start (start + column)) ≡ column
ascii-slice text start column h within = omega (
  arith,
  ascii-before Utf16Units (drop start text) (start + column - start) (IsAscii-drop text start h)
      (omega (arith, length-drop start text)),
)

pub ascii-unit : (text : List ℕ) (i : ℕ) → IsAscii text → utf16_units (slice_index text i) ≡ 1
ascii-unit text i h = weight-ascii Utf16Units (slice_index text i) (h i)
