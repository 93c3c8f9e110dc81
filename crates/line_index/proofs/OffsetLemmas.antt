-- The offset of a position, in the line that it names.
use Rattle.std.proofs.Common.{◌≡◌, ℕ, zero, suc, ◌+◌, ◌-◌, ◌<◌, ◌≤◌, Bool, true, false, not, List, [], ◌∷◌, ◌++◌}
use Rattle.std.proofs.Common.{length, take, drop, refl, sym, ap, ◌∙◌, subst, inl, inr, arith, get_or, length-append}
use Rattle.std.proofs.Common.{length-drop}
use Rattle.std.proofs.lemmas.Bool.{cases_Bool, cases_lt}
use Rattle.std.proofs.lemmas.Bool.Decides.{nat_tests}
use Rattle.std.proofs.lemmas.List.{get_or-drop, get_or-append-add, get_or_append_left, get_or_read, length-take}
use Rattle.std.proofs.lemmas.List.Sums.{prefix_len-le-length}
use Rattle.std.proofs.lemmas.Str.{IsUtf8-between, IsCharBoundary-end, IsCharBoundary-before_ascii}
use Rattle.std.specs.List.{prefix_len}
use Rattle.std.specs.Prelude.{slice_index, slice_range}
use Rattle.std.specs.Str.{IsUtf8, IsCharBoundary}
use lib.Utf8.{encode, encodes, scalar, scalars}
use Rattle.lexical_grammar.specs.Characters.{is_line_terminator}
use Rattle.line_index.proofs.CharacterLemmas.{begins-of, fresh, utf8-units, wide}
use Rattle.line_index.proofs.ColumnLemmas.{utf16_len-le}
use Rattle.line_index.proofs.LineLemmas.{start-boundary, start-le}
use Rattle.line_index.proofs.TextLemmas.{found-offset, quiet-front, cursor-quiet, start-begins, start-line, some-unit}
use Rattle.line_index.specs.Columns.{utf16_len, utf16_units}
use Rattle.line_index.specs.LineStarts.{AreStarts}
use Rattle.line_index.specs.Lines.{begins_line, line_at, line_start, line_text}
use Rattle.line_index.specs.Positions.{units, continues, lines_of, units_before, whole, width, IsCursor}
use Rattle.line_index.specs.declared.PositionEncoding.{PositionEncoding}
use Rattle.line_index.specs.declared.PositionEncoding.TheVariants.{Utf8, Utf16}

-- a line: where it begins, and where the text of it ends
pub record IsLine (text : List ℕ) (start end line : ℕ) : Type 0 where
  pub utf8 : IsUtf8 text
  pub ordered : start ≤ end
  pub within : end ≤ length text
  pub boundary : IsCharBoundary text start
  pub begins : begins_line text start ≡ true
  pub number : line ≡ line_at text start
  pub quiet : (k : ℕ) → start ≤ k → k < end → is_line_terminator (slice_index text k) ≡ false
  pub ends : end < length text → is_line_terminator (slice_index text end) ≡ true

passes-more : (p : ℕ → Bool) (x : ℕ) (xs : List ℕ) (k : ℕ) → p x ≡ true → k < 1 + prefix_len p xs
    → ((j : ℕ) → j < prefix_len p xs → p (slice_index xs j) ≡ true) → p (slice_index (x ∷ xs) k) ≡ true
passes-more p x xs zero b h more = b
passes-more p x xs (suc k) b h more = more k (omega arith)

fails-more : (p : ℕ → Bool) (x : ℕ) (xs : List ℕ) (n : ℕ) → p x ≡ true → n ≡ 1 + prefix_len p xs → n < length (x ∷ xs)
    → ((m : ℕ) → m ≡ prefix_len p xs → m < length xs → p (slice_index xs m) ≡ false)
    → p (slice_index (x ∷ xs) n) ≡ false
fails-more p x xs zero b e h more = absurd (omega arith)
fails-more p x xs (suc n) b e h more = more n (omega arith) (omega arith)

passes : (p : ℕ → Bool) (xs : List ℕ) (k : ℕ) → k < prefix_len p xs → p (slice_index xs k) ≡ true
passes p [] k h = absurd (omega arith)
passes p (x ∷ xs) k h = elim (cases_Bool (p x)) [
  | inl b ↦ passes-more p x xs k b (rw b at h) (λ j less. passes p xs j less)
  | inr b ↦ (let h' : k < 0 = rw b at h in absurd (omega arith))
]

fails : (p : ℕ → Bool) (xs : List ℕ) (n : ℕ) → n ≡ prefix_len p xs → n < length xs → p (slice_index xs n) ≡ false
fails p [] n e h = absurd (omega arith)
fails p (x ∷ xs) n e h = elim (cases_Bool (p x)) [
  | inl b ↦ fails-more p x xs n b (rw b at e) h (λ m eq less. fails p xs m eq less)
  | inr b ↦ (let e' : n ≡ 0 = rw b at e in ap (λ (k : ℕ). p (slice_index (x ∷ xs) k)) e' ∙ b)
]

not-true : (b : Bool) → not b ≡ true → b ≡ false
not-true true h = cc
not-true false h = refl

not-false : (b : Bool) → not b ≡ false → b ≡ true
not-false true h = refl
not-false false h = cc

pub line-of : (text line : List ℕ) (number s : ℕ) → s ≤ length text → line_start text s ≡ s → line_at text s ≡ number
    → IsUtf8 text → line ≡ line_text text s
    → IsLine text s (s + length line) number
line-of text line number s within begin at u is =
    let plain : ℕ → Bool = λ c. not (is_line_terminator c) in
    let n : ℕ = prefix_len plain (drop s text) in
    let most : n ≤ length (drop s text) = prefix_len-le-length plain (drop s text) in
    let is' : line ≡ take n (drop s text) =
    is ∙ ap (λ (k : ℕ). take (prefix_len plain (drop k text)) (drop k text)) begin in
    let len : length line ≡ n =
    ap length is' ∙ (let l : length (take n (drop s text)) ≡ n = omega (arith, length-take n (drop s text)) in l) in
    record {
      utf8 = u;
      ordered = omega arith;
      within = omega (arith, length-drop s text);
      boundary = subst (IsCharBoundary text) begin (start-boundary text s u within);
      begins = ap (begins_line text) (sym begin) ∙ start-begins text s;
      number = sym at;
      quiet = λ k low high. (
          let there : s + (k - s) ≡ k = omega arith in
          not-true (is_line_terminator (slice_index text k)) (ap (λ (j : ℕ). plain (slice_index text j)) (sym there)
          ∙ ap plain (sym (get_or-drop s text (k - s) 0)) ∙ passes plain (drop s text) (k - s) (omega arith))
          );
      ends = λ less. (
          let there : s + n ≡ s + length line = omega arith in
          not-false (is_line_terminator (slice_index text (s + length line)))
          (ap (λ (j : ℕ). plain (slice_index text j)) (sym there)
          ∙ ap plain (sym (get_or-drop s text n 0))
          ∙ fails plain (drop s text) n refl (omega (arith, length-drop s text)))
          );
    }

pub is-line : (inner text starts line : List ℕ) (number s : ℕ) → inner ≡ text → AreStarts inner (length inner) starts
    → IsUtf8 inner → number < length starts
    → s ≡ get_or starts number s
    → line ≡ line_text text s → IsLine text s (s + length line) number
is-line inner text starts line number s view a u some read is =
    let a' : AreStarts text (length text) starts = subst (λ (t : List ℕ). AreStarts t (length t) starts) view a in
    let s' : slice_index starts number ≡ s = sym (get_or_read starts number s some read 0) in
    let within : s ≤ length text = omega (arith, a'.within number some, s') in
    let begin : line_start text s ≡ s = subst (λ (k : ℕ). line_start text k ≡ k) s' (a'.begin number some) in
    let at : line_at text s ≡ number = subst (λ (k : ℕ). line_at text k ≡ number) s' (a'.number number some) in
    line-of text line number s within begin at (subst IsUtf8 view u) is

-- where the line ends
small : (x : ℕ) → is_line_terminator x ≡ true → x < 128
small x h = grind (arith, nat_tests)

pub end-boundary : (text : List ℕ) (start end line : ℕ) → IsLine text start end line → IsCharBoundary text end
end-boundary text start end line l = elim (cases_lt end (length text)) [
  | inl lt ↦ IsCharBoundary-before_ascii text end lt (small (slice_index text end) (l.ends lt))
  | inr ge ↦ (let e : length text ≡ end = omega (arith, l.within) in
      subst (IsCharBoundary text) e (IsCharBoundary-end text))
]

width-le : (e : PositionEncoding) (text : List ℕ) (start offset : ℕ) → IsUtf8 text → start ≤ offset
    → offset ≤ length text → IsCharBoundary text start
    → IsCharBoundary text offset
    → width e (slice_range text start offset) ≤ offset - start
width-le Utf8 text start offset u le within b d =
    omega (arith, length-take (offset - start) (drop start text), length-drop start text)
width-le Utf16 text start offset u le within b d =
    omega (
      arith,
      utf16_len-le (slice_range text start offset) (IsUtf8-between text start offset u le b d),
      length-take (offset - start) (drop start text),
      length-drop start text,
    )

-- the character behind an offset
behind : (text : List ℕ) (offset c : ℕ) (v : List ℕ) → scalar c ≡ true → drop offset text ≡ encode c ++ v
    → (offset < length text) × (slice_index text offset ≡ slice_index (encode c) 0)
behind text offset c v s eq =
    let b = begins-of Utf8 c s in
    let some : 0 < length (encode c) = omega (arith, ap length b.are) in
    let len : length (drop offset text) ≡ length (encode c) + length v = ap length eq ∙ length-append (encode c) v in
    let here : offset + 0 ≡ offset = omega arith in (
      omega (arith, length-drop offset text),
      ap (slice_index text) (sym here) ∙ sym (get_or-drop offset text 0 0) ∙ ap (λ (u : List ℕ). slice_index u 0) eq
          ∙ get_or_append_left (encode c) v 0 0 some,
    )

none-behind : (text : List ℕ) (start end line c : ℕ) (v : List ℕ) → IsLine text start end line → scalar c ≡ true
    → drop end text ≡ encode c ++ v
    → is_line_terminator c ≡ false → ⊥
none-behind text start end line c v l s eq plain =
    let b = behind text end c v s eq in
    let own : is_line_terminator (slice_index (encode c ++ v) 0) ≡ is_line_terminator c = quiet-front c v s in
    let some : 0 < length (encode c) = omega (arith, some-unit Utf8 c s) in
    let first : is_line_terminator (slice_index text end) ≡ is_line_terminator c =
    ap is_line_terminator (b.1 ∙ sym (get_or_append_left (encode c) v 0 0 some))
    ∙ own in
    let both : true ≡ false = sym (l.ends b.0) ∙ first ∙ plain in
    cc

-- the end of the line, for a column beyond it
pub at-end : (e : PositionEncoding) (text : List ℕ) (start end line column : ℕ) → IsLine text start end line
    → end - start ≤ column
    → length (units e (take end text)) ≡ whole e (units e text) (units_before (lines_of (units e text)) line column)
at-end e text start end line column l far = found-offset e text start end line column (record {
  utf8 = l.utf8;
  ordered = l.ordered;
  within = l.within;
  start_boundary = l.boundary;
  offset_boundary = end-boundary text start end line l;
  begins = l.begins;
  number = l.number;
  quiet = l.quiet;
  fits = omega (
    arith,
    width-le e text start end l.utf8 l.ordered l.within l.boundary
        (end-boundary text start end line l),
  );
  stops = λ c zs sc sz eq plain. absurd (none-behind text start end line c (encodes zs) l sc eq plain);
})

-- in bytes
not-range : (x : ℕ) → continues Utf8 x ≡ false → 128 ≤ x → 192 ≤ x
not-range x h low = grind (arith, nat_tests)

boundary-behind : (text : List ℕ) (offset c : ℕ) (zs : List ℕ) → offset ≤ length text → scalars zs ≡ true
    → drop offset text ≡ encode c ++ encodes zs
    → IsCharBoundary text (offset + length (encode c))
boundary-behind text offset c zs within s eq =
    let len : length (drop offset text) ≡ length (encode c) + length (encodes zs) =
    ap length eq ∙ length-append (encode c) (encodes zs) in
    let zero-more : length (encode c) + 0 ≡ length (encode c) = omega arith in
    let at : slice_index text (offset + length (encode c)) ≡ slice_index (encodes zs) 0
    = sym (get_or-drop offset text (length (encode c)) 0) ∙ ap (λ (u : List ℕ). slice_index u (length (encode c))) eq
    ∙ ap (slice_index (encode c ++ encodes zs)) (sym zero-more) ∙ get_or-append-add (encode c) (encodes zs) 0 0 in
    let new : continues Utf8 (slice_index text (offset + length (encode c))) ≡ false = ap (continues Utf8) at
    ∙ ap (λ (u : List ℕ). continues Utf8 (slice_index u 0)) (sym (utf8-units zs)) ∙ fresh Utf8 zs s in (
      omega (arith, length-drop offset text),
      λ less low. not-range (slice_index text (offset + length (encode c))) new low,
    )

floor-after : (text : List ℕ) (start to offset : ℕ) → IsCharBoundary text start → start ≤ to
    → ((i : ℕ) → offset < i → i ≤ to → IsCharBoundary text i → ⊥)
    → start ≤ offset
floor-after text start to offset b le nearest =
    elim (cases_lt offset start) [ inl lt ↦ absurd (nearest start lt le b) | inr ge ↦ ge ]

pub at-floor : (text : List ℕ) (start end line column offset : ℕ) → IsLine text start end line → start + column < end
    → offset ≤ start + column
    → IsCharBoundary text offset
    → ((i : ℕ) → offset < i → i ≤ start + column → IsCharBoundary text i → ⊥)
    → length (units Utf8 (take offset text))
    ≡ whole Utf8 (units Utf8 text) (units_before (lines_of (units Utf8 text)) line column)
at-floor text start end line column offset l short bound b nearest =
    let after : start ≤ offset = floor-after text start (start + column) offset l.boundary (omega arith) nearest in
    let within : offset ≤ length text = omega (arith, l.within) in
    let wide : length (slice_range text start offset) ≡ offset - start =
    omega (arith, length-take (offset - start) (drop start text), length-drop start text) in
    found-offset Utf8 text start offset line column (record {
      utf8 = l.utf8;
      ordered = after;
      within = within;
      start_boundary = l.boundary;
      offset_boundary = b;
      begins = l.begins;
      number = l.number;
      quiet = λ k low high. l.quiet k low (omega arith);
      fits = omega arith;
      stops = λ c zs sc sz eq
          plain. elim (cases_lt column (length (slice_range text start offset) + length (encode c))) [
            | inl lt ↦ lt
            | inr ge ↦ absurd (nearest (offset + length (encode c)) (omega (arith, some-unit Utf8 c sc)) (omega arith)
                (boundary-behind text offset c zs within sz eq))
          ];
    })

-- in units of UTF-16
counted : (x : ℕ) → 0 < utf16_units x → 128 ≤ x → 192 ≤ x
counted x h low = grind (arith, nat_tests)

pub units-boundary : (text : List ℕ) (start end line column offset : ℕ) → IsLine text start end line → offset ≤ end
    → utf16_len (slice_range text start offset) ≤ column
    → (offset < end → column < utf16_len (slice_range text start offset) + utf16_units (slice_index text offset))
    → IsCharBoundary text offset
units-boundary text start end line column offset l to fits full = elim (cases_lt offset end) [
  | inl lt ↦ (omega (arith, l.within), λ less low. counted (slice_index text offset) (omega (arith, full lt)) low)
  | inr ge ↦ (let e : end ≡ offset = omega arith in subst (IsCharBoundary text) e (end-boundary text start end line l))
]

pub at-units : (text : List ℕ) (start end line column offset : ℕ) → IsLine text start end line
    → start ≤ offset → offset ≤ end
    → utf16_len (slice_range text start offset) ≤ column
    → (offset < end → column < utf16_len (slice_range text start offset) + utf16_units (slice_index text offset))
    → length (units Utf16 (take offset text))
    ≡ whole Utf16 (units Utf16 text) (units_before (lines_of (units Utf16 text)) line column)
at-units text start end line column offset l from to fits full =
    found-offset Utf16 text start offset line column (record {
      utf8 = l.utf8;
      ordered = from;
      within = omega (arith, l.within);
      start_boundary = l.boundary;
      offset_boundary = units-boundary text start end line column offset l to fits full;
      begins = l.begins;
      number = l.number;
      quiet = λ k low high. l.quiet k low (omega arith);
      fits = fits;
      stops = λ c zs sc sz eq plain. elim (cases_lt offset end) [
        | inl lt ↦ omega (arith, full lt, ap utf16_units (behind text offset c (encodes zs) sc eq).1, (wide c).lead)
        | inr ge ↦ (let e : offset ≡ end = omega arith in absurd (none-behind text start end line c (encodes zs) l sc
            (ap (λ (n : ℕ). drop n text) (sym e) ∙ eq) plain))
      ];
    })

-- the position of an offset
pub named : (e : PositionEncoding) (text : List ℕ) (offset line column : ℕ) → IsUtf8 text → offset ≤ length text
    → IsCursor text offset
    → line ≡ line_at text offset → column ≡ width e (slice_range text (line_start text offset) offset)
    → whole e (units e text) (units_before (lines_of (units e text)) line column) ≡ length (units e (take offset text))
named e text offset line column u within c number is =
    sym (found-offset e text (line_start text offset) offset line column (record {
      utf8 = u;
      ordered = start-le text offset;
      within = within;
      start_boundary = start-boundary text offset u within;
      offset_boundary = c.boundary;
      begins = start-begins text offset;
      number = number ∙ start-line text offset;
      quiet = cursor-quiet text offset c;
      fits = omega arith;
      stops = λ d zs sd sz eq plain. omega (arith, some-unit e d sd);
    }))
