-- Characters and their units, in an encoding.
use Rattle.std.proofs.Common.{◌⊎◌, ◌≡◌, ℕ, ◌+◌, ◌-◌, ◌/◌, ◌%◌, ◌<◌, ◌≤◌, true, false, List, [], ◌∷◌, ◌++◌, length, refl}
use Rattle.std.proofs.Common.{sym, ap, ◌∙◌, subst, inl, inr, arith, eqb, ltb, length-append}
use Rattle.std.proofs.lemmas.Bool.{cases_Bool, ltb-true, ltb-false, and_parts}
use Rattle.std.proofs.lemmas.Bool.Decides.{nat_tests}
use Rattle.std.proofs.lemmas.List.Concat.{flat_map-cons}
use Rattle.std.proofs.lemmas.List.Sums.{sum_by-append}
use Rattle.std.specs.Char.Escape.{encode_utf16}
use Rattle.std.specs.List.{flat_map}
use Rattle.std.specs.Prelude.{slice_index}
use lib.Utf8.{encode, encodes, scalar, scalars, scalar_cases}
use Rattle.lexical_grammar.specs.Characters.{is_line_terminator}
use Rattle.line_index.proofs.WalkLemmas.{Quiet, Quiet-append, Tail}
use Rattle.line_index.specs.Columns.{utf16_units, utf16_len}
use Rattle.line_index.specs.Positions.{units_of, continues}
use Rattle.line_index.specs.declared.PositionEncoding.{PositionEncoding}
use Rattle.line_index.specs.declared.PositionEncoding.TheVariants.{Utf8, Utf16}

high : (x : ℕ) → 14 ≤ x → is_line_terminator x ≡ false
high x h = grind (arith, nat_tests)

-- the units of a character that ends no line end none
quiet-utf8 : (c : ℕ) → is_line_terminator c ≡ false → Quiet (encode c)
unfolding encode
quiet-utf8 c h = elim (cases_Bool (ltb c 128)) [
  | inl a ↦ rw a (h, tt)
  | inr a ↦ elim (cases_Bool (ltb c 2048)) [
    | inl b ↦ rw (a, b) (high (192 + c / 64) (omega arith), (high (128 + c % 64) (omega arith), tt))
    | inr b ↦ elim (cases_Bool (ltb c 65536)) [
      | inl d ↦ rw (a, b, d) (
        high (224 + c / 4096) (omega arith),
        (high (128 + (c / 64) % 64) (omega arith), (high (128 + c % 64) (omega arith), tt)),
      )
      | inr d ↦ rw (a, b, d) (
        high (240 + c / 262144) (omega arith),
        (
          high (128 + (c / 4096) % 64) (omega arith),
          (high (128 + (c / 64) % 64) (omega arith), (high (128 + c % 64) (omega arith), tt)),
        ),
      )
    ]
  ]
]

quiet-utf16 : (c : ℕ) → is_line_terminator c ≡ false → Quiet (encode_utf16 c)
quiet-utf16 c h = elim (cases_Bool (ltb c 65536)) [
  | inl a ↦ rw a (h, tt)
  | inr a ↦ rw a (
    high (55296 + (c - 65536) / 1024) (omega arith),
    (high (56320 + (c - 65536) % 1024) (omega arith), tt),
  )
]

pub quiet-of : (e : PositionEncoding) (c : ℕ) → is_line_terminator c ≡ false → Quiet (units_of e c)
quiet-of Utf8 c h = quiet-utf8 c h
quiet-of Utf16 c h = quiet-utf16 c h

small : (c : ℕ) → is_line_terminator c ≡ true → c < 128
small c h = grind (arith, nat_tests)

small-test : (c n : ℕ) → c < 128 → 128 ≤ n → ltb c n ≡ true
small-test c n h k = grind (arith, nat_tests)

one-utf8 : (c : ℕ) → c < 128 → encode c ≡ c ∷ []
unfolding encode
one-utf8 c h = (let t : ltb c 128 ≡ true = small-test c 128 h (omega arith) in rw t refl)

one-utf16 : (c : ℕ) → c < 128 → encode_utf16 c ≡ c ∷ []
one-utf16 c h = (let t : ltb c 65536 ≡ true = small-test c 65536 h (omega arith) in rw t refl)

pub one-of : (e : PositionEncoding) (c : ℕ) → is_line_terminator c ≡ true → units_of e c ≡ c ∷ []
one-of Utf8 c h = one-utf8 c (small c h)
one-of Utf16 c h = one-utf16 c (small c h)

-- the first unit of a character, and the further ones
pub record Begins (e : PositionEncoding) (c : ℕ) (us : List ℕ) : Type 0 where
  pub head : ℕ
  pub rest : List ℕ
  pub are : us ≡ head ∷ rest
  pub first : continues e head ≡ false
  pub tail : Tail e rest
  pub feed : eqb head 10 ≡ eqb c 10
  pub ends : is_line_terminator head ≡ is_line_terminator c

up8 : (x : ℕ) → continues Utf8 (128 + x % 64) ≡ true
up8 x = (let low : x % 64 < 64 = omega arith in grind (arith, nat_tests))

lead8 : (x : ℕ) → 192 ≤ x → continues Utf8 x ≡ false
lead8 x h = grind (arith, nat_tests)

ascii8 : (x : ℕ) → x < 128 → continues Utf8 x ≡ false
ascii8 x h = grind (arith, nat_tests)

no-feed : (x c : ℕ) → 14 ≤ x → 14 ≤ c → eqb x 10 ≡ eqb c 10
no-feed x c h k = grind (arith, nat_tests)

no-end : (x c : ℕ) → 14 ≤ x → 14 ≤ c → is_line_terminator x ≡ is_line_terminator c
no-end x c h k = high x h ∙ sym (high c k)

begins-utf8 : (c : ℕ) → Begins Utf8 c (encode c)
unfolding encode
begins-utf8 c = elim (cases_Bool (ltb c 128)) [
  | inl a ↦ rw a (record {
    head = c;
    rest = [];
    are = refl;
    first = ascii8 c (ltb-true c 128 a);
    tail = tt;
    feed = refl;
    ends = refl;
  })
  | inr a ↦
      let big : 128 ≤ c = ltb-false c 128 a in
      elim (cases_Bool (ltb c 2048)) [
        | inl b ↦ rw (a, b) (record {
          head = 192 + c / 64;
          rest = (128 + c % 64) ∷ [];
          are = refl;
          first = lead8 (192 + c / 64) (omega arith);
          tail = (up8 c, tt);
          feed = no-feed (192 + c / 64) c (omega arith) (omega arith);
          ends = no-end (192 + c / 64) c (omega arith) (omega arith);
        })
        | inr b ↦ elim (cases_Bool (ltb c 65536)) [
          | inl d ↦ rw (a, b, d) (record {
            head = 224 + c / 4096;
            rest = (128 + (c / 64) % 64) ∷ (128 + c % 64) ∷ [];
            are = refl;
            first = lead8 (224 + c / 4096) (omega arith);
            tail = (up8 (c / 64), (up8 c, tt));
            feed = no-feed (224 + c / 4096) c (omega arith) (omega arith);
            ends = no-end (224 + c / 4096) c (omega arith) (omega arith);
          })
          | inr d ↦ rw (a, b, d) (record {
            head = 240 + c / 262144;
            rest = (128 + (c / 4096) % 64) ∷ (128 + (c / 64) % 64) ∷ (128 + c % 64) ∷ [];
            are = refl;
            first = lead8 (240 + c / 262144) (omega arith);
            tail = (up8 (c / 4096), (up8 (c / 64), (up8 c, tt)));
            feed = no-feed (240 + c / 262144) c (omega arith) (omega arith);
            ends = no-end (240 + c / 262144) c (omega arith) (omega arith);
          })
        ]
      ]
]

apart16 : (x : ℕ) → (x < 56320) ⊎ (57344 ≤ x) → continues Utf16 x ≡ false
apart16 x (inl h) = grind (arith, nat_tests)
apart16 x (inr h) = grind (arith, nat_tests)

low16 : (x : ℕ) → continues Utf16 (56320 + x % 1024) ≡ true
low16 x = (let low : x % 1024 < 1024 = omega arith in grind (arith, nat_tests))

lone16 : (c : ℕ) → (c < 55296) ⊎ ((57344 ≤ c) × (c < 1114112)) → continues Utf16 c ≡ false
lone16 c (inl h) = apart16 c (inl (omega arith))
lone16 c (inr h) = apart16 c (inr h.0)

bounded : (c : ℕ) → (c < 55296) ⊎ ((57344 ≤ c) × (c < 1114112)) → c < 1114112
bounded c (inl h) = omega arith
bounded c (inr h) = h.1

begins-utf16 : (c : ℕ) → scalar c ≡ true → Begins Utf16 c (encode_utf16 c)
begins-utf16 c s = elim (cases_Bool (ltb c 65536)) [
  | inl a ↦ rw a (record {
    head = c;
    rest = [];
    are = refl;
    first = lone16 c (scalar_cases c s);
    tail = tt;
    feed = refl;
    ends = refl;
  })
  | inr a ↦
      let big : 65536 ≤ c = ltb-false c 65536 a in
      let most : c < 1114112 = bounded c (scalar_cases c s) in
      rw a (record {
        head = 55296 + (c - 65536) / 1024;
        rest = (56320 + (c - 65536) % 1024) ∷ [];
        are = refl;
        first = apart16 (55296 + (c - 65536) / 1024) (inl (omega arith));
        tail = (low16 (c - 65536), tt);
        feed = no-feed (55296 + (c - 65536) / 1024) c (omega arith) (omega arith);
        ends = no-end (55296 + (c - 65536) / 1024) c (omega arith) (omega arith);
      })
]

pub begins-of : (e : PositionEncoding) (c : ℕ) → scalar c ≡ true → Begins e c (units_of e c)
begins-of Utf8 c s = begins-utf8 c
begins-of Utf16 c s = begins-utf16 c s

-- the units of some characters
abbrev pub all_units : PositionEncoding → List ℕ → List ℕ
all_units e cs = flat_map (units_of e) cs

pub QuietAll : (e : PositionEncoding) (cs : List ℕ) → Quiet cs → Quiet (all_units e cs)
QuietAll e [] q = tt
QuietAll e (c ∷ cs) q = subst Quiet (sym (flat_map-cons (units_of e) c cs))
    (Quiet-append (units_of e c) (all_units e cs) (quiet-of e c q.0) (QuietAll e cs q.1))

nothing : (e : PositionEncoding) → continues e 0 ≡ false
nothing Utf8 = refl
nothing Utf16 = refl

pub fresh : (e : PositionEncoding) (cs : List ℕ) → scalars cs ≡ true
    → continues e (slice_index (all_units e cs) 0) ≡ false
fresh e [] s = nothing e
fresh e (c ∷ cs) s =
    let b = begins-of e c (and_parts (scalar c) (scalars cs) s).0 in
    let at : slice_index (all_units e (c ∷ cs)) 0 ≡ b.head = ap (λ (u : List ℕ). slice_index u 0)
    (flat_map-cons (units_of e) c cs ∙ ap (λ (u : List ℕ). u ++ all_units e cs) b.are) in
    ap (continues e) at ∙ b.first

pub first-feed : (e : PositionEncoding) (cs : List ℕ) → scalars cs ≡ true
    → eqb (slice_index (all_units e cs) 0) 10 ≡ eqb (slice_index cs 0) 10
first-feed e [] s = refl
first-feed e (c ∷ cs) s =
    let b = begins-of e c (and_parts (scalar c) (scalars cs) s).0 in
    let at : slice_index (all_units e (c ∷ cs)) 0 ≡ b.head = ap (λ (u : List ℕ). slice_index u 0)
    (flat_map-cons (units_of e) c cs ∙ ap (λ (u : List ℕ). u ++ all_units e cs) b.are) in
    ap (λ (x : ℕ). eqb x 10) at ∙ b.feed

-- how wide a character is in UTF-16
lead16 : (x : ℕ) → 192 ≤ x → x < 240 → utf16_units x ≡ 1
lead16 x h k = grind (arith, nat_tests)

top16 : (x : ℕ) → 240 ≤ x → utf16_units x ≡ 2
top16 x h = grind (arith, nat_tests)

ascii16 : (x : ℕ) → x < 128 → utf16_units x ≡ 1
ascii16 x h = grind (arith, nat_tests)

later16 : (c : ℕ) → utf16_units (128 + c % 64) ≡ 0
later16 c = (let low : c % 64 < 64 = omega arith in grind (arith, nat_tests))

pub record Wide (c : ℕ) (bytes : List ℕ) : Type 0 where
  pub len : utf16_len bytes ≡ length (encode_utf16 c)
  pub lead : utf16_units (slice_index bytes 0) ≡ length (encode_utf16 c)

below : (c m n : ℕ) → c < m → m ≤ n → ltb c n ≡ true
below c m n h k = grind (arith, nat_tests)

narrow : (c : ℕ) → ltb c 65536 ≡ true → length (encode_utf16 c) ≡ 1
narrow c h = rw h refl

broad : (c : ℕ) → ltb c 65536 ≡ false → length (encode_utf16 c) ≡ 2
broad c h = rw h refl

pub wide : (c : ℕ) → Wide c (encode c)
unfolding encode
wide c = elim (cases_Bool (ltb c 128)) [
  | inl a ↦
      let l : utf16_units c ≡ 1 = ascii16 c (ltb-true c 128 a) in
      let n = narrow c (small-test c 65536 (ltb-true c 128 a) (omega arith)) in
      rw a (record { len = omega (arith, l, n); lead = l ∙ sym n })
  | inr a ↦ elim (cases_Bool (ltb c 2048)) [
    | inl b ↦
        let l : utf16_units (192 + c / 64) ≡ 1 =
        lead16 (192 + c / 64) (omega arith) (omega (arith, ltb-true c 2048 b)) in
        let n = narrow c (below c 2048 65536 (ltb-true c 2048 b) (omega arith)) in
        rw (a, b) (record { len = omega (arith, l, n, later16 c); lead = l ∙ sym n })
    | inr b ↦ elim (cases_Bool (ltb c 65536)) [
      | inl d ↦
          let l : utf16_units (224 + c / 4096) ≡ 1 =
          lead16 (224 + c / 4096) (omega arith) (omega (arith, ltb-true c 65536 d)) in
          let n = narrow c d in
          rw (a, b, d) (record { len = omega (arith, l, n, later16 (c / 64), later16 c); lead = l ∙ sym n })
      | inr d ↦
          let l : utf16_units (240 + c / 262144) ≡ 2 = top16 (240 + c / 262144) (omega arith) in
          let n = broad c d in
          rw (a, b, d) (record {
            len = omega (arith, l, n, later16 (c / 4096), later16 (c / 64), later16 c);
            lead = l
                ∙ sym n;
          })
    ]
  ]
]

pub utf16-length : (cs : List ℕ) → length (all_units Utf16 cs) ≡ utf16_len (encodes cs)
utf16-length [] = refl
utf16-length (c ∷ cs) =
    let l : length (all_units Utf16 (c ∷ cs)) ≡ length (encode_utf16 c) + length (all_units Utf16 cs) =
    ap length (flat_map-cons (units_of Utf16) c cs)
    ∙ length-append (encode_utf16 c) (all_units Utf16 cs) in
    let w = wide c in
    omega (arith, l, w.len, utf16-length cs, sum_by-append utf16_units (encode c) (encodes cs))

pub utf8-units : (cs : List ℕ) → all_units Utf8 cs ≡ encodes cs
utf8-units [] = refl
utf8-units (c ∷ cs) = flat_map-cons (units_of Utf8) c cs ∙ ap (λ (u : List ℕ). encode c ++ u) (utf8-units cs)
