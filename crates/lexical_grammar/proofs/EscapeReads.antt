-- An escape at the front of a text, form by form: how long it is, and which character it represents.
use Rattle.std.proofs.Common.{◌≡◌, ℕ, ◌+◌, ◌-◌, ◌<◌, ◌≤◌, Bool, true, false, cond, List, [], ◌∷◌, length, take, drop}
use Rattle.std.proofs.Common.{min, nat_lt, Some, None, refl, sym, ap, ◌∙◌, subst, inl, inr, arith, length-append}
use Rattle.std.proofs.lemmas.Bool.{and_parts, cases_lt, lt-ltb, false_from_ne_true}
use Rattle.std.proofs.lemmas.Bool.Decides.{nat_tests}
use Rattle.std.proofs.lemmas.List.{take_rest}
use Rattle.std.specs.Char.{IsScalar}
use Rattle.std.specs.Char.Utf16.{is_high_surrogate, is_low_surrogate, surrogate_pair_char}
use Rattle.std.specs.List.{list_all, prefix_len}
use Rattle.std.specs.Prelude.{slice_index, is_some, ◌&&◌, encode_utf8}
use lib.Utf8.{scalar}
use Rattle.lexical_grammar.proofs.HexReads.{rest-digits, scalar-least, second-fails}
use Rattle.lexical_grammar.proofs.Runs.{run-passes}
use Rattle.lexical_grammar.proofs.StringReads.{no_brace}
use Rattle.lexical_grammar.proofs.StringSound.{begins-is, fixed-front, character-sound}
use Rattle.lexical_grammar.specs.Characters.{is_hex_digit}
use Rattle.lexical_grammar.specs.Escapes.{IsFixedValue, IsEscape}
use Rattle.lexical_grammar.specs.Reads.{begins_fixed_escape, fixed_value, begins_braced_escape, braced_digits_len}
use Rattle.lexical_grammar.specs.Reads.{string_character_len, string_character_value}
use Rattle.lexical_grammar.specs.Strings.{hex_value, begins, escaped_character}

-- a text that begins with a backslash
slashed : (P : List ℕ → Type 0) (text : List ℕ) → slice_index text 0 ≡ 92 → ((bs : List ℕ) → P (92 ∷ bs)) → P text
slashed P [] e h = absurd (omega arith)
slashed P (b ∷ bs) e h = subst (λ (c : ℕ). P (c ∷ bs)) (sym e) (h bs)

-- the string character at the front has n bytes, and represents the text `said`
record IsRead (text : List ℕ) (n : ℕ) (said : List ℕ) : Type 0 where
  pub len : n ≡ string_character_len text
  pub value : said ≡ string_character_value text

pub read-within : (text : List ℕ) → string_character_len text ≤ length text
read-within [] = omega arith
read-within (b ∷ bs) = elim (cases_lt 0 (string_character_len (b ∷ bs))) [
  | inl some ↦ (let f = character-sound b bs some in
      omega (arith, f.len, ap (λ (l : List ℕ). length l) f.joined, length-append f.text f.rest))
  | inr none ↦ omega arith
]

escape-of : (text said : List ℕ) (c n : ℕ) → IsRead text n said → encode_utf8 c ≡ said → 0 < n → IsEscape text c n
escape-of text said c n r e some =
    record { value = e ∙ r.value; bytes = r.len; some = some; within = omega (arith, r.len, read-within text) }

no_brace-there : (text : List ℕ) → begins_fixed_escape text ≡ true → begins_braced_escape text ≡ false
no_brace-there text h =
    let f = fixed-front text h in
    ap begins_braced_escape f.joined ∙ no_brace f.digits (drop 6 text) f.escape.four f.escape.hex

second-byte : (bs : List ℕ) → begins (92 ∷ 117 ∷ []) (92 ∷ bs) ≡ true → slice_index bs 0 ≡ 117
second-byte bs h = ap (λ l. slice_index l 1) (begins-is (92 ∷ 117 ∷ []) (92 ∷ bs) h)

no-other : (bs : List ℕ) → begins (92 ∷ 117 ∷ []) (92 ∷ bs) ≡ true
    → is_some (escaped_character (slice_index bs 0)) ≡ false
no-other bs h = ap (λ (c : ℕ). is_some (escaped_character c)) (second-byte bs h)

-- ---- two fixed escapes: a surrogate pair, or no pair

pair-at : (bs : List ℕ) → begins_fixed_escape (92 ∷ bs) ≡ true → scalar (fixed_value (92 ∷ bs)) ≡ false
    → is_high_surrogate (fixed_value (92 ∷ bs)) ≡ true
    → begins_fixed_escape (drop 6 (92 ∷ bs)) ≡ true → is_low_surrogate (fixed_value (drop 6 (92 ∷ bs))) ≡ true
    → IsRead (92 ∷ bs) 12 (encode_utf8 (surrogate_pair_char (fixed_value (92 ∷ bs)) (fixed_value (drop 6 (92 ∷ bs)))))
pair-at bs h s high next low =
    let brace = no_brace-there (92 ∷ bs) h in
    record { len = rw (h, s, brace, high, next, low) refl; value = rw (h, s, brace, high, next, low) refl }

no-pair-at : (bs : List ℕ) → begins_fixed_escape (92 ∷ bs) ≡ true → scalar (fixed_value (92 ∷ bs)) ≡ false
    → (is_high_surrogate (fixed_value (92 ∷ bs))
    && (begins_fixed_escape (drop 6 (92 ∷ bs)) && is_low_surrogate (fixed_value (drop 6 (92 ∷ bs))))) ≡ false
    → string_character_len (92 ∷ bs) ≡ 0
no-pair-at bs h s none =
    let brace = no_brace-there (92 ∷ bs) h in
    let other = no-other bs (and_parts _ _ h).0 in
    rw (h, s, brace, other) (ap (λ p. cond p 12 0) none)

no-scalar : (text : List ℕ) (v : ℕ) → IsFixedValue text (Some v) → (IsScalar v → ⊥) → scalar (fixed_value text) ≡ false
no-scalar text v f none = false_from_ne_true _ (λ t. none (ap scalar f.1 ∙ t))

-- what is left of the text
abbrev Next : List ℕ → List ℕ
Next text = take (length text - 6) (drop 6 text)

pub pair-escape : (text : List ℕ) (v low c : ℕ) → slice_index text 0 ≡ 92 → IsFixedValue text (Some v)
    → (IsScalar v → ⊥) → IsFixedValue (Next text) (Some low)
    → (is_high_surrogate v && is_low_surrogate low) ≡ true → c ≡ surrogate_pair_char v low → IsEscape text c 12
pair-escape text v low c e f none g both is =
    slashed (λ t. IsFixedValue t (Some v) → IsFixedValue (drop 6 t) (Some low) → IsEscape t c 12) text e
    (λ bs f g.
    let p = and_parts (is_high_surrogate v) (is_low_surrogate low) both in
    escape-of (92 ∷ bs) _ c 12
    (pair-at bs f.0 (no-scalar (92 ∷ bs) v f none) (ap is_high_surrogate (sym f.1) ∙ p.0) g.0
    (ap is_low_surrogate (sym g.1) ∙ p.1))
    (ap encode_utf8 (is ∙ (λ i. surrogate_pair_char (f.1 i) (g.1 i)))) (omega arith))
    f (subst (λ t. IsFixedValue t (Some low)) (take_rest text 6) g)

pub lone-escape : (text : List ℕ) (v : ℕ) → slice_index text 0 ≡ 92 → IsFixedValue text (Some v) → (IsScalar v → ⊥)
    → IsFixedValue (Next text) None
    → string_character_len text ≡ 0
lone-escape text v e f none g =
    slashed (λ t. IsFixedValue t (Some v) → IsFixedValue (drop 6 t) None → string_character_len t ≡ 0) text e
    (λ bs f g. no-pair-at bs f.0 (no-scalar (92 ∷ bs) v f none)
    (second-fails (is_high_surrogate (fixed_value (92 ∷ bs))) (begins_fixed_escape (drop 6 (92 ∷ bs)))
    (is_low_surrogate (fixed_value (drop 6 (92 ∷ bs)))) g))
    f (subst (λ t. IsFixedValue t None) (take_rest text 6) g)

both-fail : (a b c : Bool) → (a && c) ≡ false → b ≡ true → (a && (b && c)) ≡ false
both-fail a b c e f = rw f e

pub no-pair-escape : (text : List ℕ) (v low : ℕ) → slice_index text 0 ≡ 92 → IsFixedValue text (Some v)
    → (IsScalar v → ⊥) → IsFixedValue (Next text) (Some low)
    → (is_high_surrogate v && is_low_surrogate low) ≡ false → string_character_len text ≡ 0
no-pair-escape text v low e f none g both =
    slashed (λ t. IsFixedValue t (Some v) → IsFixedValue (drop 6 t) (Some low) → string_character_len t ≡ 0) text e
    (λ bs f g. no-pair-at bs f.0 (no-scalar (92 ∷ bs) v f none)
    (both-fail (is_high_surrogate (fixed_value (92 ∷ bs))) (begins_fixed_escape (drop 6 (92 ∷ bs)))
    (is_low_surrogate (fixed_value (drop 6 (92 ∷ bs))))
    ((λ i. is_high_surrogate (sym f.1 i) && is_low_surrogate (sym g.1 i)) ∙ both) g.0))
    f (subst (λ t. IsFixedValue t (Some low)) (take_rest text 6) g)

-- ---- a braced escape

pub no-digits : (text : List ℕ) (n : ℕ) → n ≡ prefix_len is_hex_digit (take (length text - 3) (drop 3 text)) → n ≡ 0
    → begins_braced_escape text ≡ false
no-digits text n e none =
    second-fails (begins (92 ∷ 117 ∷ 123 ∷ []) text) _ _ (ap (nat_lt 0) (sym (rest-digits text n e) ∙ none))

pub no-close : (text : List ℕ) (n : ℕ) → n ≡ prefix_len is_hex_digit (take (length text - 3) (drop 3 text))
    → begins (125 ∷ []) (take (length text - (3 + n)) (drop (3 + n) text)) ≡ false → begins_braced_escape text ≡ false
no-close text n e none =
    let is : begins (125 ∷ []) (drop (3 + braced_digits_len text) text) ≡ false =
    ap (λ m. begins (125 ∷ []) (drop (3 + m) text)) (sym (rest-digits text n e))
    ∙ ap (begins (125 ∷ [])) (sym (take_rest text (3 + n))) ∙ none in
    close_fails (begins (92 ∷ 117 ∷ 123 ∷ []) text) (nat_lt 0 (braced_digits_len text)) _ _ is where
      close_fails : (a b c d : Bool) → c ≡ false → (a && (b && (c && d))) ≡ false
      close_fails true true c d e = rw e refl
      close_fails true false c d e = refl
      close_fails false b c d e = refl

pub no-braced : (text : List ℕ) → begins (92 ∷ 117 ∷ 123 ∷ []) text ≡ false → begins_braced_escape text ≡ false
no-braced text h = rw h refl

-- the digits between the braces, and the number that was read
pub record IsBraced (text : List ℕ) (n v : ℕ) : Type 0 where
  pub len : n ≡ braced_digits_len text
  pub names : begins_braced_escape text ≡ scalar v
  pub value : scalar v ≡ true → v ≡ hex_value (take (braced_digits_len text) (drop 3 text))

scalar-small : (v : ℕ) → scalar v ≡ true → v < 1114112
scalar-small v h = grind (arith, nat_tests)

pub braced-by : (text : List ℕ) (n v : ℕ) → begins (92 ∷ 117 ∷ 123 ∷ []) text ≡ true
    → n ≡ prefix_len is_hex_digit (take (length text - 3) (drop 3 text))
    → 0 < n
    → begins (125 ∷ []) (take (length text - (3 + n)) (drop (3 + n) text)) ≡ true
    → (list_all is_hex_digit (take (3 + n - 3) (drop 3 text)) ≡ true
    → v ≡ min (hex_value (take (3 + n - 3) (drop 3 text))) 1114112) → IsBraced text n v
braced-by text n v front e some close value =
    let same = rest-digits text n e in
    let less : 3 + n - 3 ≡ n = omega arith in
    let ds : take (3 + n - 3) (drop 3 text) ≡ take (braced_digits_len text) (drop 3 text) =
    ap (λ (m : ℕ). take m (drop 3 text)) (less ∙ same) in
    let all = subst (λ l. list_all is_hex_digit l ≡ true) (sym ds) (run-passes is_hex_digit (drop 3 text)) in
    let closes : begins (125 ∷ []) (drop (3 + braced_digits_len text) text) ≡ true =
    ap (λ m. begins (125 ∷ []) (drop (3 + m) text)) (sym same)
    ∙ ap (begins (125 ∷ [])) (sym (take_rest text (3 + n))) ∙ close in
    let is : v ≡ min (hex_value (take (braced_digits_len text) (drop 3 text))) 1114112 =
    value all ∙ ap (λ l. min (hex_value l) 1114112) ds in
    let names : scalar (hex_value (take (braced_digits_len text) (drop 3 text)))
    ≡ scalar v = sym (scalar-least (hex_value (take (braced_digits_len text) (drop 3 text)))) ∙ ap scalar (sym is) in
    let digits : nat_lt 0 (braced_digits_len text) ≡ true = ap (nat_lt 0) (sym same) ∙ lt-ltb 0 n some in
    record { len = same; names = rw (front, digits, closes) names; value = λ s. omega (arith, is, scalar-small v s) }

braced-at : (bs : List ℕ) → begins_fixed_escape (92 ∷ bs) ≡ false → begins_braced_escape (92 ∷ bs) ≡ true
    → IsRead (92 ∷ bs) (4 + braced_digits_len (92 ∷ bs))
    (encode_utf8 (hex_value (take (braced_digits_len (92 ∷ bs)) (drop 3 (92 ∷ bs)))))
braced-at bs h b = record { len = rw (h, b) refl; value = rw (h, b) refl }

pub braced-escape : (text : List ℕ) (n v c : ℕ) → slice_index text 0 ≡ 92 → begins_fixed_escape text ≡ false
    → IsBraced text n v → scalar v ≡ true → c ≡ v
    → IsEscape text c (4 + n)
braced-escape text n v c e h b s is =
    slashed (λ t. begins_fixed_escape t ≡ false → IsBraced t n v → IsEscape t c (4 + n)) text e
    (λ bs h b. subst (λ (m : ℕ). IsEscape (92 ∷ bs) c (4 + m)) (sym b.len)
    (escape-of (92 ∷ bs) _ c _ (braced-at bs h (b.names ∙ s)) (ap encode_utf8 (is ∙ b.value s)) (omega arith))) h b

unbraced-at : (bs : List ℕ) → begins (92 ∷ 117 ∷ []) (92 ∷ bs) ≡ true → begins_fixed_escape (92 ∷ bs) ≡ false
    → begins_braced_escape (92 ∷ bs) ≡ false
    → string_character_len (92 ∷ bs) ≡ 0
unbraced-at bs front h b = rw (h, b, no-other bs front) refl

pub no-braced-escape : (text : List ℕ) → slice_index text 0 ≡ 92 → begins (92 ∷ 117 ∷ []) text ≡ true
    → begins_fixed_escape text ≡ false
    → begins_braced_escape text ≡ false
    → string_character_len text ≡ 0
no-braced-escape text e front h b =
    slashed (λ t. begins (92 ∷ 117 ∷ []) t ≡ true → begins_fixed_escape t ≡ false → begins_braced_escape t ≡ false
    → string_character_len t ≡ 0) text e unbraced-at front h b

pub no-number : (text : List ℕ) (n v : ℕ) → IsBraced text n v → (IsScalar v → ⊥) → begins_braced_escape text ≡ false
no-number text n v b none = b.names ∙ false_from_ne_true _ none
