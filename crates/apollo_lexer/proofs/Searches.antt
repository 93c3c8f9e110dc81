-- A search meets a reading byte after byte: what the search passes over is passed at once.
use Rattle.std.proofs.Common.{◌≡◌, ℕ, zero, suc, ◌+◌, ◌-◌, ◌<◌, ◌≤◌, Bool, true, false, cond, List, [], ◌∷◌, length}
use Rattle.std.proofs.Common.{drop, take, Option, Some, None, refl, sym, ap, ◌∙◌, arith, eqb, eqb-true, inl, inr}
use Rattle.std.proofs.Common.{length-append, length-drop, subst}
use Rattle.std.proofs.lemmas.Bool.{false_from_ne_true, ne_eqb, or_parts, eqb-false, or_cases, both_ways, cases_Bool}
use Rattle.std.proofs.lemmas.Bool.Decides.{nat_tests}
use Rattle.std.proofs.lemmas.List.{drop-drop, drop_all, take_rest, get_or-drop}
use Rattle.std.proofs.lemmas.List.Sums.{prefix_len_stops}
use Rattle.std.specs.List.{prefix_len}
use Rattle.std.specs.Prelude.{option_map, slice_index}
use Rattle.memchr.specs.Find.{is_byte2, Nowhere, NoneBefore, Passes}
use Rattle.lexical_grammar.proofs.StringSound.{begins-is}
use Rattle.lexical_grammar.specs.Characters.{is_plain_string_character, is_comment_character}
use Rattle.lexical_grammar.specs.Reads.{block_len, quoted_len, string_character_len, bad_escape_len, bad_string_len}
use Rattle.lexical_grammar.specs.Strings.{begins, triple_quote, escaped_triple_quote}
use Rattle.apollo_lexer.specs.StringParts.{read_bad}

-- a length, longer by a number of bytes
abbrev pub longer : ℕ → Option ℕ → Option ℕ
longer n o = option_map (λ m. n + m) o

pub longer-none : (o : Option ℕ) → longer 0 o ≡ o
longer-none None = refl
longer-none (Some m) = ap Some (omega arith)

pub longer-suc : (n : ℕ) (o : Option ℕ) → option_map suc (longer n o) ≡ longer (suc n) o
longer-suc n None = refl
longer-suc n (Some m) = ap Some (omega arith)

pub longer-more : (a b n : ℕ) (o : Option ℕ) → a + b ≡ n → longer a (longer b o) ≡ longer n o
longer-more a b n None e = refl
longer-more a b n (Some m) e = ap Some (omega arith)

pub run-of : (read : List ℕ → Option ℕ) (p : ℕ → Bool)
    → ((b : ℕ) (bs : List ℕ) → p b ≡ false → read (b ∷ bs) ≡ option_map suc (read bs))
    → (i : ℕ) (text : List ℕ) → i ≤ length text → ((k : ℕ) → k < i → p (slice_index text k) ≡ true → ⊥)
    → read text ≡ longer i (read (drop i text))
run-of read p quiet zero text le none = sym (longer-none (read text))
run-of read p quiet (suc i) [] le none = absurd (omega arith)
run-of read p quiet (suc i) (b ∷ bs) le none =
    quiet b bs (false_from_ne_true (p b) (none 0 (omega arith)))
    ∙ ap (option_map suc) (run-of read p quiet i bs (omega arith) (λ k lt. none (suc k) (omega arith)))
    ∙ longer-suc i (read (drop i bs))

pub none-of : (read : List ℕ → Option ℕ) (p : ℕ → Bool)
    → ((b : ℕ) (bs : List ℕ) → p b ≡ false → read (b ∷ bs) ≡ option_map suc (read bs)) → read [] ≡ None
    → (text : List ℕ) → ((k : ℕ) → k < length text → p (slice_index text k) ≡ true → ⊥) → read text ≡ None
none-of read p quiet nil [] none = nil
none-of read p quiet nil (b ∷ bs) none =
    quiet b bs (false_from_ne_true (p b) (none 0 (omega arith)))
    ∙ ap (option_map suc) (none-of read p quiet nil bs (λ k lt. none (suc k) (omega arith)))

-- block strings
other-way : (a b : ℕ) → eqb a b ≡ false → eqb b a ≡ false
other-way a b e = ne_eqb b a (λ s. eqb-false a b e (sym s))

pub block-quiet : (b : ℕ) (bs : List ℕ) → is_byte2 34 92 b ≡ false
    → block_len 0 (b ∷ bs) ≡ option_map suc (block_len 0 bs)
block-quiet b bs h =
    let q = or_parts (eqb b 34) (eqb b 92) h in
    let quote = other-way b 34 q.0 in
    let slash = other-way b 92 q.1 in
    rw (quote, slash) refl

pub block-piece-none : (text : List ℕ) → Nowhere (Passes (is_byte2 34 92) text) 0 (length text)
    → block_len 0 text ≡ None
block-piece-none text none =
    none-of (block_len 0) (is_byte2 34 92) block-quiet refl text (λ k lt. none k (omega arith) lt)

pub block-piece-run : (text : List ℕ) (i : ℕ) → i ≤ length text → Nowhere (Passes (is_byte2 34 92) text) 0 i
    → block_len 0 text ≡ longer i (block_len 0 (drop i text))
block-piece-run text i le none =
    run-of (block_len 0) (is_byte2 34 92) block-quiet i text le (λ k lt. none k (omega arith) lt)

-- what is left where the search ended
pub slice-rest : (text : List ℕ) (i : ℕ) → take (length text - i) (drop i text) ≡ drop i text
slice-rest text i = take_rest text i

at-last : (tail : List ℕ) → begins triple_quote tail ≡ true → block_len 0 tail ≡ Some 3
at-last [] h = absurd (let no : false ≡ true = h in (cc))
at-last (b ∷ bs) h = rw h refl

map-four : (o : Option ℕ) → option_map suc (option_map suc (option_map suc (option_map suc o))) ≡ longer 4 o
map-four None = refl
map-four (Some m) = ap Some (omega arith)

map-one : (o : Option ℕ) → option_map suc o ≡ longer 1 o
map-one None = refl
map-one (Some m) = ap Some (omega arith)

at-escaped : (tail : List ℕ) → begins escaped_triple_quote tail ≡ true
    → block_len 0 tail ≡ longer 4 (block_len 0 (drop 4 tail))
at-escaped tail h = ap (block_len 0) (begins-is escaped_triple_quote tail h) ∙ map-four (block_len 0 (drop 4 tail))

at-other : (tail : List ℕ) → 0 < length tail → begins triple_quote tail ≡ false
    → begins escaped_triple_quote tail ≡ false
    → block_len 0 tail ≡ longer 1 (block_len 0 (drop 1 tail))
at-other [] some h g = absurd (omega arith)
at-other (b ∷ bs) some h g = rw (h, g) (map-one (block_len 0 bs))

-- the part of a search that ends at an offset
abbrev pub FirstAt : (ℕ → Bool) → List ℕ → ℕ → Type 0
FirstAt p text i = NoneBefore (Passes p text) 0 (length text) i × Passes p text i

long-as : (front text : List ℕ) (i : ℕ) → i ≤ length text → begins front (drop i text) ≡ true
    → i + length front ≤ length text
long-as front text i le h =
    let e = ap (λ (l : List ℕ). length l) (begins-is front (drop i text) h) in
    omega (arith, e, length-append front (drop (length front) (drop i text)), length-drop i text)

of-slice : (front text : List ℕ) (i : ℕ) (b : Bool) → begins front (take (length text - i) (drop i text)) ≡ b
    → begins front (drop i text) ≡ b
of-slice front text i b h = ap (begins front) (sym (slice-rest text i)) ∙ h

behind : (read : List ℕ → Option ℕ) (text : List ℕ) (i n : ℕ) → read text ≡ longer i (read (drop i text))
    → read (drop i text) ≡ longer n (read (drop n (drop i text)))
    → read text ≡ longer (i + n) (read (drop (i + n) text))
behind read text i n e f =
    e ∙ ap (longer i) f ∙ longer-more i n (i + n) _ refl ∙ ap (λ l. longer (i + n) (read l)) (drop-drop n i text)

pub block-last : (text : List ℕ) (i : ℕ) → FirstAt (is_byte2 34 92) text i
    → begins triple_quote (take (length text - i) (drop i text)) ≡ true
    → (i + 3 ≤ length text) × (block_len 0 text ≡ Some (i + 3))
block-last text i f h =
    let le : i ≤ length text = omega (arith, f.0.high) in
    let t = of-slice triple_quote text i true h in
    (long-as triple_quote text i le t, block-piece-run text i le f.0.before ∙ ap (longer i) (at-last (drop i text) t))

pub block-inner : (text : List ℕ) (i : ℕ) → FirstAt (is_byte2 34 92) text i
    → begins escaped_triple_quote (take (length text - i) (drop i text)) ≡ true
    → (0 < i + 4) × (i + 4 ≤ length text) × (block_len 0 text ≡ longer (i + 4) (block_len 0 (drop (i + 4) text)))
block-inner text i f h =
    let le : i ≤ length text = omega (arith, f.0.high) in
    let t = of-slice escaped_triple_quote text i true h in (
      omega arith,
      long-as escaped_triple_quote text i le t,
      behind (block_len 0) text i 4 (block-piece-run text i le f.0.before) (at-escaped (drop i text) t),
    )

pub block-other : (text : List ℕ) (i : ℕ) → FirstAt (is_byte2 34 92) text i
    → begins triple_quote (take (length text - i) (drop i text)) ≡ false
    → begins escaped_triple_quote (take (length text - i) (drop i text)) ≡ false
    → (0 < i + 1) × (i + 1 ≤ length text) × (block_len 0 text ≡ longer (i + 1) (block_len 0 (drop (i + 1) text)))
block-other text i f h g =
    let le : i < length text = f.0.high in (
      omega arith,
      omega arith,
      behind (block_len 0) text i 1 (block-piece-run text i (omega arith) f.0.before)
          (at-other (drop i text) (omega (arith, length-drop i text)) (of-slice triple_quote text i false h)
          (of-slice escaped_triple_quote text i false g)),
    )

-- bad strings
pub bad-quiet : (b : ℕ) (bs : List ℕ) → is_byte2 34 92 b ≡ false → read_bad (b ∷ bs) ≡ option_map suc (read_bad bs)
bad-quiet b bs h = let q = or_parts (eqb b 34) (eqb b 92) h in let quote = q.0 in let slash = q.1 in
    rw (quote, slash) (ap Some (omega arith))

all-bad : (text : List ℕ) → ((k : ℕ) → k < length text → is_byte2 34 92 (slice_index text k) ≡ true → ⊥)
    → read_bad text ≡ Some (length text)
all-bad [] none = refl
all-bad (b ∷ bs) none =
    bad-quiet b bs (false_from_ne_true _ (none 0 (omega arith)))
    ∙ ap (option_map suc) (all-bad bs (λ k lt. none (suc k) (omega arith))) ∙ ap Some (omega arith)

pub bad-open : (text : List ℕ) → Nowhere (Passes (is_byte2 34 92) text) 0 (length text)
    → (length text ≤ length text) × (read_bad text ≡ Some (length text))
bad-open text none = (omega arith, all-bad text (λ k lt. none k (omega arith) lt))

bad-run : (text : List ℕ) (i : ℕ) → FirstAt (is_byte2 34 92) text i → read_bad text ≡ longer i (read_bad (drop i text))
bad-run text i f = run-of read_bad (is_byte2 34 92) bad-quiet i text (omega (arith, f.0.high))
    (λ k lt. f.0.before k (omega arith) lt)

at-quote : (tail : List ℕ) → 0 < length tail → eqb (slice_index tail 0) 34 ≡ true → read_bad tail ≡ Some 1
at-quote [] some h = absurd (omega arith)
at-quote (b ∷ bs) some h = rw h refl

-- what is taken along is passed
taken-along : (n : ℕ) (bs : List ℕ) → n ≤ length bs → bad_string_len n bs ≡ n + bad_string_len 0 (drop n bs)
taken-along zero bs le = let same : bad_string_len 0 (drop 0 bs) ≡ bad_string_len 0 bs = refl in omega (arith, same)
taken-along (suc n) [] le = absurd (omega arith)
taken-along (suc n) (b ∷ bs) le = let more = taken-along n bs (omega arith) in omega (arith, more)

at-slash : (tail : List ℕ) (n : ℕ) → eqb (slice_index tail 0) 92 ≡ true → n ≡ bad_escape_len tail
    → 0 < n → n ≤ length tail
    → read_bad tail ≡ longer n (read_bad (drop n tail))
at-slash [] n h e some le = absurd (omega arith)
at-slash (b ∷ bs) zero h e some le = absurd (omega arith)
at-slash (b ∷ bs) (suc n) h e some le =
    let len : bad_escape_len (b ∷ bs) ≡ suc n = sym e in
    let quote : eqb b 34 ≡ false = ne_eqb b 34 (λ z. omega (arith, eqb-true b 92 h)) in
    let step : read_bad (b ∷ bs) ≡ Some (1 + bad_string_len (suc n - 1) bs) = rw (len, quote, h) refl in
    let less : suc n - 1 ≡ n = omega arith in
    let more = taken-along n bs (omega arith) in
    step ∙ ap (λ m. Some (1 + bad_string_len m bs)) less ∙ ap Some (omega (arith, more))

pub byte-at : (text : List ℕ) (i : ℕ) → slice_index (drop i text) 0 ≡ slice_index text i
byte-at text i = get_or-drop i text 0 0 ∙ ap (slice_index text) (omega arith)

pub bad-quote : (text : List ℕ) (i : ℕ) → FirstAt (is_byte2 34 92) text i → eqb (slice_index text i) 34 ≡ true
    → (i + 1 ≤ length text) × (read_bad text ≡ Some (i + 1))
bad-quote text i f h =
    let le : i < length text = f.0.high in (
      omega arith,
      bad-run text i f
          ∙ ap (longer i) (at-quote (drop i text) (omega (arith, length-drop i text))
          (ap (λ b. eqb b 34) (byte-at text i) ∙ h)),
    )

pub slash-of : (text : List ℕ) (i : ℕ) → FirstAt (is_byte2 34 92) text i → eqb (slice_index text i) 34 ≡ false
    → eqb (slice_index text i) 92 ≡ true
slash-of text i f other = elim (or_cases (eqb (slice_index text i) 34) (eqb (slice_index text i) 92) f.1) [
  | inl is ↦ absurd (both_ways _ other is)
  | inr is ↦ is
]

pub bad-slash : (text : List ℕ) (i n : ℕ) → FirstAt (is_byte2 34 92) text i → eqb (slice_index text i) 34 ≡ false
    → n ≡ bad_escape_len (take (length text - i) (drop i text)) → 0 < n
    → n ≤ length (take (length text - i) (drop i text))
    → (0 < i + n) × (i + n ≤ length text) × (read_bad text ≡ longer (i + n) (read_bad (drop (i + n) text)))
bad-slash text i n f other e some within =
    let le : i < length text = f.0.high in
    let rest = slice-rest text i in
    let fits : n ≤ length (drop i text) = subst (λ (l : List ℕ). n ≤ length l) rest within in (
      omega arith,
      omega (arith, fits, length-drop i text),
      behind read_bad text i n (bad-run text i f)
          (at-slash (drop i text) n (ap (λ b. eqb b 92) (byte-at text i) ∙ slash-of text i f other)
          (e ∙ ap bad_escape_len rest) some fits),
    )

-- quoted strings: the plain characters at the front, and what stops them
quoted-quiet : (b : ℕ) (bs : List ℕ) → is_plain_string_character b ≡ true
    → quoted_len 0 (b ∷ bs) ≡ option_map suc (quoted_len 0 bs)
quoted-quiet b bs p =
    let quote : eqb b 34 ≡ false = plain_quote b p in
    rw (p, quote) refl where
      plain_quote : (b : ℕ) → is_plain_string_character b ≡ true → eqb b 34 ≡ false
      plain_quote b h = grind (arith, nat_tests)

abbrev plain : List ℕ → ℕ
plain text = prefix_len is_plain_string_character text

quoted-run : (text : List ℕ) → quoted_len 0 text ≡ longer (plain text) (quoted_len 0 (drop (plain text) text))
quoted-run [] = refl
quoted-run (b ∷ bs) = elim (cases_Bool (is_plain_string_character b)) [
  | inl e ↦
      let run : plain (b ∷ bs) ≡ suc (plain bs) = ap (λ t. cond t (1 + plain bs) 0) e ∙ omega arith in
      subst (λ k. quoted_len 0 (b ∷ bs) ≡ longer k (quoted_len 0 (drop k (b ∷ bs)))) (sym run)
      (quoted-quiet b bs e ∙ ap (option_map suc) (quoted-run bs)
      ∙ longer-suc (plain bs) (quoted_len 0 (drop (plain bs) bs)))
  | inr other ↦
      let none : plain (b ∷ bs) ≡ 0 = ap (λ t. cond t (1 + plain bs) 0) other in
      subst (λ k. quoted_len 0 (b ∷ bs) ≡ longer k (quoted_len 0 (drop k (b ∷ bs)))) (sym none)
      (sym (longer-none (quoted_len 0 (b ∷ bs))))
]

pub quoted-open : (text : List ℕ) (i : ℕ) → i ≡ plain text → i ≡ length text → quoted_len 0 text ≡ None
quoted-open text i is whole =
    quoted-run text ∙ ap (λ k. longer k (quoted_len 0 (drop k text))) (sym is ∙ whole)
    ∙ ap (λ l. longer (length text) (quoted_len 0 l)) (drop_all (length text) text (omega arith))

-- so far, and what is left
quoted-to : (text : List ℕ) (i : ℕ) → i ≡ plain text → quoted_len 0 text ≡ longer i (quoted_len 0 (drop i text))
quoted-to text i is = subst (λ k. quoted_len 0 text ≡ longer k (quoted_len 0 (drop k text))) (sym is) (quoted-run text)

not-plain : (text : List ℕ) (i : ℕ) → i ≡ plain text → i < length text
    → is_plain_string_character (slice_index text i) ≡ false
not-plain text i is lt =
    ap (λ k. is_plain_string_character (slice_index text k)) is
    ∙ prefix_len_stops is_plain_string_character text 0 (omega (arith, is))

quote-ends : (tail : List ℕ) → 0 < length tail → eqb (slice_index tail 0) 34 ≡ true → quoted_len 0 tail ≡ Some 1
quote-ends [] some h = absurd (omega arith)
quote-ends (b ∷ bs) some h = rw h refl

pub quoted-last : (text : List ℕ) (i : ℕ) → i ≡ plain text → i < length text → eqb (slice_index text i) 34 ≡ true
    → (i + 1 ≤ length text) × (quoted_len 0 text ≡ Some (i + 1))
quoted-last text i is lt h = (
  omega arith,
  quoted-to text i is
      ∙ ap (longer i) (quote-ends (drop i text) (omega (arith, length-drop i text))
      (ap (λ b. eqb b 34) (byte-at text i) ∙ h)),
)

-- at a line terminator none is read
terminator : (b : ℕ) (bs : List ℕ) → is_byte2 10 13 b ≡ true → quoted_len 0 (b ∷ bs) ≡ None
terminator b bs h = elim (or_cases (eqb b 10) (eqb b 13) h) [
  | inl e ↦ let is = eqb-true b 10 e in rw is refl
  | inr e ↦ let is = eqb-true b 13 e in rw is refl
]

at-terminator : (tail : List ℕ) → 0 < length tail → is_byte2 10 13 (slice_index tail 0) ≡ true
    → quoted_len 0 tail ≡ None
at-terminator [] some h = absurd (omega arith)
at-terminator (b ∷ bs) some h = terminator b bs h

special-is : (b : ℕ) → is_plain_string_character b ≡ false → eqb b 34 ≡ false → eqb b 92 ≡ false
    → is_byte2 10 13 b ≡ true
special-is b h quote slash = grind (arith, nat_tests)

pub quoted-broken : (text : List ℕ) (i : ℕ) → i ≡ plain text → i < length text → eqb (slice_index text i) 34 ≡ false
    → eqb (slice_index text i) 92 ≡ false
    → quoted_len 0 text ≡ None
quoted-broken text i is lt quote slash =
    let end = special-is (slice_index text i) (not-plain text i is lt) quote slash in
    quoted-to text i is ∙ ap (longer i)
    (at-terminator (drop i text) (omega (arith, length-drop i text)) (ap (is_byte2 10 13) (byte-at text i) ∙ end))

-- an escape of n bytes is passed, and where there is none nothing is read
skip-bytes : (n : ℕ) (bs : List ℕ) → n ≤ length bs → quoted_len n bs ≡ longer n (quoted_len 0 (drop n bs))
skip-bytes zero bs le = sym (longer-none (quoted_len 0 bs))
skip-bytes (suc n) [] le = absurd (omega arith)
skip-bytes (suc n) (b ∷ bs) le =
    ap (option_map suc) (skip-bytes n bs (omega arith)) ∙ longer-suc n (quoted_len 0 (drop n bs))

escape-passed : (tail : List ℕ) (n : ℕ) → eqb (slice_index tail 0) 34 ≡ false → n ≡ string_character_len tail
    → 0 < n → n ≤ length tail
    → quoted_len 0 tail ≡ longer n (quoted_len 0 (drop n tail))
escape-passed [] n quote e some le = absurd (omega arith)
escape-passed (b ∷ bs) zero quote e some le = absurd (omega arith)
escape-passed (b ∷ bs) (suc n) quote e some le =
    let len : string_character_len (b ∷ bs) ≡ suc n = sym e in
    let some : eqb (suc n) 0 ≡ false = ne_eqb (suc n) 0 (λ z. omega arith) in
    let step : quoted_len 0 (b ∷ bs) ≡ option_map suc (quoted_len (suc n - 1) bs) = rw (len, quote, some) refl in
    let less : suc n - 1 ≡ n = omega arith in
    step ∙ ap (λ m. option_map suc (quoted_len m bs)) less ∙ ap (option_map suc) (skip-bytes n bs (omega arith))
    ∙ longer-suc n (quoted_len 0 (drop n bs))

escape-none : (tail : List ℕ) → eqb (slice_index tail 0) 34 ≡ false → string_character_len tail ≡ 0
    → quoted_len 0 tail ≡ None
escape-none [] quote e = refl
escape-none (b ∷ bs) quote e = rw (e, quote) refl

pub quoted-inner : (text : List ℕ) (i n : ℕ) → i ≡ plain text → i < length text → eqb (slice_index text i) 34 ≡ false
    → n ≡ string_character_len (take (length text - i) (drop i text)) → 0 < n
    → n ≤ length (take (length text - i) (drop i text)) → (0 < i + n) × (i + n ≤ length text)
    × (quoted_len 0 text ≡ longer (i + n) (quoted_len 0 (drop (i + n) text)))
quoted-inner text i n is lt other e some within =
    let rest = slice-rest text i in
    let fits : n ≤ length (drop i text) = subst (λ (l : List ℕ). n ≤ length l) rest within in (
      omega arith,
      omega (arith, fits, length-drop i text),
      behind (quoted_len 0) text i n (quoted-to text i is)
          (escape-passed (drop i text) n (ap (λ b. eqb b 34) (byte-at text i) ∙ other)
          (e ∙ ap string_character_len rest) some fits),
    )

pub quoted-bad : (text : List ℕ) (i n : ℕ) → i ≡ plain text → eqb (slice_index text i) 34 ≡ false
    → n ≡ string_character_len (take (length text - i) (drop i text)) → n ≡ 0 → quoted_len 0 text ≡ None
quoted-bad text i n is other e none =
    quoted-to text i is ∙ ap (longer i) (escape-none (drop i text) (ap (λ b. eqb b 34) (byte-at text i) ∙ other)
    (ap string_character_len (sym (slice-rest text i)) ∙ sym e ∙ none))

-- a byte of the text, in the rest of the text
byte-there : (text : List ℕ) (i b : ℕ) → slice_index text i ≡ b
    → slice_index (take (length text - i) (drop i text)) 0 ≡ b
byte-there text i b is = ap (λ l. slice_index l 0) (slice-rest text i) ∙ byte-at text i ∙ is

-- the byte where the search ended, if it is no quote, in the rest of the text
pub backslash-there : (text : List ℕ) (i : ℕ) → FirstAt (is_byte2 34 92) text i → eqb (slice_index text i) 34 ≡ false
    → slice_index (take (length text - i) (drop i text)) 0 ≡ 92
backslash-there text i f other = byte-there text i 92 (eqb-true _ _ (slash-of text i f other))

-- the end of a comment is the first line terminator, or the end of the text
comment-quiet : (b : ℕ) (bs : List ℕ) → is_byte2 10 13 b ≡ false
    → prefix_len is_comment_character (b ∷ bs) ≡ suc (prefix_len is_comment_character bs)
comment-quiet b bs h = rw h (omega arith)

pub comment-whole : (text : List ℕ) → Nowhere (Passes (is_byte2 10 13) text) 0 (length text)
    → prefix_len is_comment_character text ≡ length text
comment-whole [] none = refl
comment-whole (b ∷ bs) none =
    comment-quiet b bs (false_from_ne_true _ (none 0 (omega arith) (omega arith)))
    ∙ ap suc (comment-whole bs (λ k low lt. none (suc k) (omega arith) (omega arith))) ∙ omega arith

comment-until : (i : ℕ) (text : List ℕ) → i < length text
    → ((k : ℕ) → k < i → is_byte2 10 13 (slice_index text k) ≡ true → ⊥)
    → is_byte2 10 13 (slice_index text i) ≡ true
    → prefix_len is_comment_character text ≡ i
comment-until i [] lt none is = absurd (omega arith)
comment-until zero (b ∷ bs) lt none is = rw is refl
comment-until (suc i) (b ∷ bs) lt none is =
    comment-quiet b bs (false_from_ne_true _ (none 0 (omega arith)))
    ∙ ap suc (comment-until i bs (omega arith) (λ k l. none (suc k) (omega arith)) is)
    ∙ omega arith

pub comment-ends : (text : List ℕ) (i : ℕ) → FirstAt (is_byte2 10 13) text i → prefix_len is_comment_character text ≡ i
comment-ends text i f = comment-until i text f.0.high (λ k lt. f.0.before k (omega arith) lt) f.1
