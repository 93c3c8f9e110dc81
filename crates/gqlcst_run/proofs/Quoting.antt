-- Texts between quotes, piece by piece.
use Rattle.std.proofs.Common.{◌≡◌, ◌≢◌, ℕ, zero, suc, ◌+◌, ◌-◌, ◌/◌, ◌%◌, ◌<◌, ◌≤◌, Bool, true, false, cond, List, []}
use Rattle.std.proofs.Common.{◌∷◌, ◌++◌, length, get_or, take, drop, refl, sym, ap, ◌∙◌, append_assoc, subst}
use Rattle.std.proofs.Common.{true≢false, arith}
use Rattle.std.proofs.lemmas.Bool.{and_parts}
use Rattle.std.proofs.lemmas.Bool.Decides.{nat_tests}
use Rattle.std.proofs.lemmas.Fmt.{hex_one_digit, hex_two_digits}
use Rattle.std.proofs.lemmas.Grind.{flat_map-append}
use Rattle.std.proofs.lemmas.List.{append-nil, take-append-drop, take_rest}
use Rattle.std.proofs.lemmas.List.Folds.{list_all-append}
use Rattle.std.specs.Bool.{MatchBool}
use Rattle.std.specs.Char.{is_ascii}
use Rattle.std.specs.Fmt.{digits, digit_glyph, debug_escape, debug_escape_letter, debug_str}
use Rattle.std.specs.List.{prefix_len, flat_map, list_all}
use Rattle.std.specs.Prelude.{codes, Some, None, slice_index}
use Rattle.std.specs.Str.{IsAscii, IsNotAscii}
use borrow.Author.Tests.{eq-eqb, ne_eqb, ltb-true}
use Rattle.gqlcst_run.proofs.Buffers.{puts_nothing, puts_then}
use Rattle.gqlcst_run.specs.Buffering.{Buffered, Puts, PutsSome, PutsAny}
use Rattle.gqlcst_run.specs.Quoted.{is_plain, is_control, IsEscaped}
use Rattle.gqlcst_run.specs.Rendering.{IsForm, IsFormAfter}

-- a byte that is written as a letter after a backslash
escape-letter : (b : ℕ) → debug_escape_letter b 34 ≢ 0 → debug_escape 34 b ≡ 92 ∷ debug_escape_letter b 34 ∷ []
unfolding debug_escape
escape-letter b some = rw (ne_eqb (debug_escape_letter b 34) 0 some)

-- any other byte
escape-other : (b : ℕ) (control : Bool) → debug_escape_letter b 34 ≡ 0 → is_control b ≡ control
    → debug_escape 34 b ≡ cond control (92 ∷ 117 ∷ 123 ∷ (digits 16 false b ++ 125 ∷ [])) (b ∷ [])
unfolding debug_escape
escape-other b control none test = rw (eq-eqb (debug_escape_letter b 34) 0 none, test)

-- the same of the bytes that are put
pub letter_put : (b letter : ℕ) (s t : Buffered) → letter ≡ debug_escape_letter b 34 → letter ≢ 0
    → Puts s (92 ∷ letter ∷ []) t → Puts s (debug_escape 34 b) t
letter_put b letter s t is some p =
    subst (λ (form : List ℕ). Puts s form t)
    (ap (λ (l : ℕ). 92 ∷ l ∷ []) is ∙ sym (escape-letter b (λ none. some (is ∙ none)))) p

pub control_put : (b letter : ℕ) (control : Bool) (s t : Buffered) → letter ≡ debug_escape_letter b 34 → letter ≡ 0
    → control ≡ is_control b → control ≡ true
    → Puts s (codes "\\u{" ++ (digits 16 false b ++ codes "}")) t → Puts s (debug_escape 34 b) t
control_put b letter control s t is none tests passes p =
    let form : debug_escape 34 b ≡ codes "\\u{" ++ (digits 16 false b ++ codes "}") =
    escape-other b true (sym is ∙ none) (sym tests ∙ passes) in
    subst (λ (bytes : List ℕ). Puts s bytes t) (sym form) p

pub other_put : (b letter : ℕ) (control : Bool) (s t : Buffered) → letter ≡ debug_escape_letter b 34 → letter ≡ 0
    → control ≡ is_control b → control ≡ false
    → Puts s (b ∷ []) t → Puts s (debug_escape 34 b) t
other_put b letter control s t is none tests fails p =
    let form : debug_escape 34 b ≡ b ∷ [] = escape-other b false (sym is ∙ none) (sym tests ∙ fails) in
    subst (λ (bytes : List ℕ). Puts s bytes t) (sym form) p

-- one hex digit, or two
pub hex_put_one : (b digit : ℕ) (s t : Buffered) → b < 16 → digit ≡ digit_glyph false b → Puts s (digit ∷ []) t
    → Puts s (digits 16 false b) t
hex_put_one b digit s t small is p =
    subst (λ (form : List ℕ). Puts s form t) (ap (λ (d : ℕ). d ∷ []) is ∙ sym (hex_one_digit false b small)) p

pub hex_put_two : (b high low : ℕ) (s t : Buffered) → 16 ≤ b → b < 256 → high ≡ digit_glyph false (b / 16)
    → low ≡ digit_glyph false (b % 16)
    → Puts s (high ∷ low ∷ []) t
    → Puts s (digits 16 false b) t
hex_put_two b high low s t large small h l p =
    subst (λ (form : List ℕ). Puts s form t) (rw (h, l) (sym (hex_two_digits false b large small))) p

plain-low : (b : ℕ) → is_plain b ≡ true → 32 ≤ b
plain-low b plain = grind (arith, nat_tests)

plain-high : (b : ℕ) → is_plain b ≡ true → b ≤ 126
plain-high b plain = grind (arith, nat_tests)

plain-quote : (b : ℕ) → is_plain b ≡ true → b ≢ 34
plain-quote b plain = grind (arith, nat_tests)

plain-backslash : (b : ℕ) → is_plain b ≡ true → b ≢ 92
plain-backslash b plain = grind (arith, nat_tests)

-- a plain byte has no letter, and is no control character
no-letter : (b : ℕ) → is_plain b ≡ true → 0 ≡ debug_escape_letter b 34
no-letter b plain =
    let low : 32 ≤ b = plain-low b plain in
    let zero : b ≢ 0 = omega (arith, low) in
    let tab : b ≢ 9 = omega (arith, low) in
    let feed : b ≢ 10 = omega (arith, low) in
    let back : b ≢ 13 = omega (arith, low) in
    rw (
      ne_eqb b 34 (plain-quote b plain),
      ne_eqb b 0 zero,
      ne_eqb b 9 tab,
      ne_eqb b 10 feed,
      ne_eqb b 13 back,
      ne_eqb b 92 (plain-backslash b plain),
    ) refl

no-control : (b : ℕ) → 32 ≤ b → b ≤ 126 → is_control b ≡ false
no-control b low high = grind (arith, nat_tests)

-- so it is written as it is
plain-one : (b : ℕ) → is_plain b ≡ true → debug_escape 34 b ≡ b ∷ []
plain-one b plain = escape-other b false (sym (no-letter b plain))
    (no-control b (plain-low b plain) (plain-high b plain))

plain-suc : (b : ℕ) (text : List ℕ) (n : ℕ) → is_plain b ≡ true → flat_map (debug_escape 34) (take n text) ≡ take n text
    → flat_map (debug_escape 34) (take (suc n) (b ∷ text)) ≡ take (suc n) (b ∷ text)
plain-suc b text n plain rest = rw (plain-one b plain, rest) refl

plain-next : (t : Bool) (b : ℕ) (text : List ℕ) → is_plain b ≡ t
    → flat_map (debug_escape 34) (take (prefix_len is_plain text) text)
    ≡ take (prefix_len is_plain text) text
    → flat_map (debug_escape 34) (take (cond t (1 + prefix_len is_plain text) 0) (b ∷ text))
    ≡ take (cond t (1 + prefix_len is_plain text) 0) (b ∷ text)
plain-next true b text p rest =
    let n = prefix_len is_plain text in
    let e : suc n ≡ 1 + n = omega arith in
    subst (λ (m : ℕ). flat_map (debug_escape 34) (take m (b ∷ text)) ≡ take m (b ∷ text)) e (plain-suc b text n p rest)
plain-next false b text p rest = refl

-- the plain bytes at the front are written as they are
pub plain_front : (text : List ℕ)
    → flat_map (debug_escape 34) (take (prefix_len is_plain text) text) ≡ take (prefix_len is_plain text) text
plain_front [] = refl
plain_front (b ∷ text) = plain-next (is_plain b) b text refl (plain_front text)

-- Some of the text is written, and this is left.
pub record IsPartWritten (text rest : List ℕ) (old new : Buffered) : Type 0 where
  pub front : List ℕ
  pub joined : text ≡ front ++ rest
  pub puts : Puts old (flat_map (debug_escape 34) front) new

pub part_none : (text : List ℕ) (s : Buffered) → IsPartWritten text text s s
part_none text s = record { front = []; joined = refl; puts = puts_nothing s }

part-more : (text rest : List ℕ) (n : ℕ) (s t u : Buffered) → IsPartWritten text rest s t
    → Puts t (flat_map (debug_escape 34) (take n rest)) u
    → IsPartWritten text (drop n rest) s u
part-more text rest n s t u h p = record {
  front = h.front ++ take n rest;
  joined = h.joined ∙ (ap (λ (bs : List ℕ). h.front ++ bs) (sym (take-append-drop n rest))
      ∙ sym (append_assoc h.front (take n rest) (drop n rest)));
  puts = subst (λ (bs : List ℕ). Puts s bs u) (sym (flat_map-append (debug_escape 34) h.front (take n rest)))
      (puts_then s t u (flat_map (debug_escape 34) h.front) (flat_map (debug_escape 34) (take n rest)) h.puts p);
}

pub part_more : (text rest : List ℕ) (n : ℕ) (s t u : Buffered) → IsPartWritten text rest s t
    → Puts t (flat_map (debug_escape 34) (take n rest)) u
    → IsPartWritten text (take (length rest - n) (drop n rest)) s u
part_more text rest n s t u h p =
    subst (λ (more : List ℕ). IsPartWritten text more s u) (sym (take_rest rest n)) (part-more text rest n s t u h p)

pub part_all : (text : List ℕ) (s t : Buffered) → IsPartWritten text [] s t → Puts s (flat_map (debug_escape 34) text) t
part_all text s t h = subst (λ (bs : List ℕ). Puts s (flat_map (debug_escape 34) bs) t)
    (sym (append-nil h.front) ∙ sym h.joined) h.puts

one-escape : (bytes : List ℕ) → 0 < length bytes
    → flat_map (debug_escape 34) (take 1 bytes) ≡ debug_escape 34 (get_or bytes 0 0)
one-escape [] some = absurd (omega arith)
one-escape (b ∷ bytes) some = append-nil (debug_escape 34 b)

-- the bytes at the front, and one escape
pub front_put : (bytes : List ℕ) (n : ℕ) (s t : Buffered) → n ≡ prefix_len is_plain bytes → Puts s (take n bytes) t
    → Puts s (flat_map (debug_escape 34) (take n bytes)) t
front_put bytes n s t is p = subst (λ (form : List ℕ). Puts s form t) (rw is (sym (plain_front bytes))) p

pub escape_put : (bytes : List ℕ) (s t : Buffered) → 0 < length bytes → Puts s (debug_escape 34 (get_or bytes 0 0)) t
    → Puts s (flat_map (debug_escape 34) (take 1 bytes)) t
escape_put bytes s t some p = subst (λ (form : List ℕ). Puts s form t) (sym (one-escape bytes some)) p

-- the form of a text of ASCII, and of another one
ascii-at : (text : List ℕ) (i : ℕ) → list_all is_ascii text ≡ true → slice_index text i < 128
ascii-at [] i all = omega arith
ascii-at (b ∷ text) zero all = ltb-true b 128 (and_parts (is_ascii b) (list_all is_ascii text) all).0
ascii-at (b ∷ text) (suc i) all = ascii-at text i (and_parts (is_ascii b) (list_all is_ascii text) all).1

pub ascii_put : (text bytes : List ℕ) (s t : Buffered) → bytes ≡ text → Puts s (flat_map (debug_escape 34) bytes) t
    → PutsSome (IsEscaped text) s t
ascii_put text bytes s t is p =
    record { output = flat_map (debug_escape 34) bytes; made = λ ascii. ap (flat_map (debug_escape 34)) is; puts = p }

pub any_put : (text : List ℕ) (test : Bool) (s t : Buffered) → MatchBool test (IsAscii text) (IsNotAscii text)
    → test ≡ false → PutsAny s t
    → PutsSome (IsEscaped text) s t
any_put text true s t cases fails p = absurd (true≢false fails)
any_put text false s t other fails p =
    record {
      output = p.output;
      made = λ ascii. absurd (omega (arith, ascii-at text other.0 ascii, other.1));
      puts = p.puts;
    }

quoted-by : (t : Bool) (text form : List ℕ) → (t ≡ true → form ≡ flat_map (debug_escape 34) text)
    → IsForm (cond t (Some (34 ∷ (flat_map (debug_escape 34) text ++ 34 ∷ []))) None) (34 ∷ (form ++ 34 ∷ []))
quoted-by true text form escaped = ap (λ (bs : List ℕ). 34 ∷ (bs ++ 34 ∷ [])) (escaped refl)
quoted-by false text form escaped = tt

-- the same in quotes
pub quoted-form : (text form : List ℕ) → IsEscaped text form → IsForm (debug_str text) (34 ∷ (form ++ 34 ∷ []))
quoted-form text form escaped = quoted-by (list_all is_ascii text) text form escaped

-- a text of plain bytes, in quotes after another text
plain-all : (text : List ℕ) → list_all is_plain text ≡ true → flat_map (debug_escape 34) text ≡ text
plain-all [] all = refl
plain-all (b ∷ text) all =
    let each = and_parts (is_plain b) (list_all is_plain text) all in
    rw (plain-one b each.0, plain-all text each.1) refl

plain-escaped : (text : List ℕ) → list_all is_plain text ≡ true → IsEscaped text text
plain-escaped text all = λ ascii. sym (plain-all text all)

pub plain_put : (front text bytes : List ℕ) (plain : Bool) (s t : Buffered) → bytes ≡ text
    → plain ≡ list_all is_plain bytes → plain ≡ true
    → Puts s (front ++ (34 ∷ (bytes ++ 34 ∷ []))) t → PutsSome (IsFormAfter front (debug_str text)) s t
plain_put front text bytes plain s t is tests all p = record {
  output = front ++ (34 ∷ (bytes ++ 34 ∷ []));
  made = record {
    form = 34 ∷ (bytes ++ 34 ∷ []);
    stated_form = quoted-form text bytes
        (λ ascii. sym (plain-all bytes (sym tests ∙ all)) ∙ ap (flat_map (debug_escape 34)) is);
    joined = refl;
  };
  puts = p;
}

-- any text, in quotes after another text
pub quoted_put : (front text : List ℕ) (s t u : Buffered) → Puts s front t → PutsSome (IsForm (debug_str text)) t u
    → PutsSome (IsFormAfter front (debug_str text)) s u
quoted_put front text s t u p q = record {
  output = front ++ q.output;
  made = record { form = q.output; stated_form = q.made; joined = refl };
  puts = puts_then s t u front q.output p q.puts;
}

-- the form of a text in three parts is made of the forms of the parts, one after the other
pub escaped-parts : (a b c f g h : List ℕ) → IsEscaped a f → IsEscaped b g → IsEscaped c h
    → IsEscaped (a ++ b ++ c) (f ++ g ++ h)
escaped-parts a b c f g h x y z = λ ascii.
    let both = and_parts (list_all is_ascii (a ++ b)) (list_all is_ascii c)
    (sym (list_all-append is_ascii (a ++ b) c) ∙ ascii) in
    let each = and_parts (list_all is_ascii a) (list_all is_ascii b) (sym (list_all-append is_ascii a b) ∙ both.0) in
    rw (x each.0, y each.1, z both.1) (sym (flat_map-append (debug_escape 34) (a ++ b) c
    ∙ ap (λ (bs : List ℕ). bs ++ flat_map (debug_escape 34) c) (flat_map-append (debug_escape 34) a b)))

-- so a text in three plain parts is written as it is
pub plain_parts_put : (a b c one two three : List ℕ) (s t : Buffered) → one ≡ a → two ≡ b → three ≡ c
    → list_all is_plain one ≡ true → list_all is_plain two ≡ true → list_all is_plain three ≡ true
    → Puts s (one ++ (two ++ (three ++ []))) t → PutsSome (IsEscaped (a ++ b ++ c)) s t
plain_parts_put a b c one two three s t same-one same-two same-three x y z p = record {
  output = one ++ (two ++ (three ++ []));
  made = subst (IsEscaped (a ++ b ++ c)) (rw (same-one, same-two, same-three, append-nil c) (append_assoc a b c))
      (escaped-parts a b c a b c (plain-escaped a (rw same-one at x)) (plain-escaped b (rw same-two at y))
      (plain-escaped c (rw same-three at z)));
  puts = p;
}
