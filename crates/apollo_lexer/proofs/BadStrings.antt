-- The search for the last fault of a bad string meets the definition byte after byte.
use Rattle.std.proofs.Common.{◌≡◌, ℕ, zero, suc, ◌+◌, ◌-◌, ◌<◌, ◌≤◌, true, false, cond, List, [], ◌∷◌, length, drop}
use Rattle.std.proofs.Common.{take, Option, refl, sym, ap, ◌∙◌, arith, eqb, eqb-true, subst, inl, inr, length-drop}
use Rattle.std.proofs.lemmas.Bool.{false_from_ne_true, ne_eqb, or_parts, cases_Bool, lt-ltb, le-ltb}
use Rattle.std.proofs.lemmas.List.{drop-drop}
use Rattle.std.specs.Prelude.{slice_index}
use Rattle.memchr.specs.Find.{is_byte2, Nowhere, Passes}
use Rattle.lexical_grammar.specs.Characters.{is_line_terminator}
use Rattle.lexical_grammar.specs.NumberStates.{live_len}
use Rattle.lexical_grammar.specs.Reads.{bad_escape_len, string_character_len}
use Rattle.lexical_grammar.specs.declared.NumberState.TheVariants.{Begin}
use Rattle.apollo_lexer.proofs.Searches.{FirstAt, slash-of, byte-at, slice-rest}
use Rattle.apollo_lexer.specs.BadText.{after_character, after_escape, bad_text_message, escape_fault, fault_behind}
use Rattle.apollo_lexer.specs.BadText.{last_fault}
use Rattle.apollo_lexer.specs.Faults.{fault_message}
use Rattle.apollo_lexer.specs.Parts.{after_characters, or_last}
use Rattle.apollo_lexer.specs.declared.faults.LexFault.{LexFault}
use Rattle.apollo_lexer.specs.declared.faults.LexFault.TheVariants.{LineTerminator, UnterminatedString}

-- ---- line terminators

no-terminator : (last : LexFault) (bytes : List ℕ)
    → ((k : ℕ) → k < length bytes → is_byte2 10 13 (slice_index bytes k) ≡ true → ⊥)
    → after_characters last bytes ≡ last
no-terminator last [] none = refl
no-terminator last (b ∷ bs) none =
    let here : after_character last b ≡ last =
    ap (λ t. cond t LineTerminator last) (false_from_ne_true (is_byte2 10 13 b) (none 0 (omega arith))) in
    ap (λ f. after_characters f bs) here ∙ no-terminator last bs (λ k lt. none (suc k) (omega arith))

stays : (bytes : List ℕ) → after_characters LineTerminator bytes ≡ LineTerminator
stays [] = refl
stays (b ∷ bs) = elim (cases_Bool (is_line_terminator b)) [
  | inl e ↦ ap (λ t. after_characters (cond t LineTerminator LineTerminator) bs) e ∙ stays bs
  | inr e ↦ ap (λ t. after_characters (cond t LineTerminator LineTerminator) bs) e ∙ stays bs
]

some-terminator : (i : ℕ) (last : LexFault) (bytes : List ℕ) → i < length bytes
    → is_byte2 10 13 (slice_index bytes i) ≡ true
    → after_characters last bytes ≡ LineTerminator
some-terminator i last [] lt is = absurd (omega arith)
some-terminator zero last (b ∷ bs) lt is = ap (λ t. after_characters (cond t LineTerminator last) bs) is ∙ stays bs
some-terminator (suc i) last (b ∷ bs) lt is = some-terminator i (after_character last b) bs (omega arith) is

pub line-none : (last : LexFault) (bytes : List ℕ) → Nowhere (Passes (is_byte2 10 13) bytes) 0 (length bytes)
    → last ≡ after_characters last bytes
line-none last bytes none = sym (no-terminator last bytes (λ k lt. none k (omega arith) lt))

pub line-some : (last : LexFault) (bytes : List ℕ) (i : ℕ) → FirstAt (is_byte2 10 13) bytes i
    → LineTerminator ≡ after_characters last bytes
line-some last bytes i f = sym (some-terminator i last bytes f.0.high f.1)

-- ---- characters, up to a quote or a backslash

plain-step : (last : LexFault) (b : ℕ) (bs : List ℕ) → is_byte2 34 92 b ≡ false
    → last_fault last 0 (b ∷ bs) ≡ last_fault (after_character last b) 0 bs
plain-step last b bs h = let q = or_parts (eqb b 34) (eqb b 92) h in let quote = q.0 in let slash = q.1 in
    rw (quote, slash) refl

passed : (i : ℕ) (last : LexFault) (text : List ℕ) → i ≤ length text
    → ((k : ℕ) → k < i → is_byte2 34 92 (slice_index text k) ≡ true → ⊥)
    → last_fault last 0 text ≡ last_fault (after_characters last (take i text)) 0 (drop i text)
passed zero last text le none = refl
passed (suc i) last [] le none = absurd (omega arith)
passed (suc i) last (b ∷ bs) le none =
    plain-step last b bs (false_from_ne_true _ (none 0 (omega arith)))
    ∙ passed i (after_character last b) bs (omega arith) (λ k lt. none (suc k) (omega arith))

all-passed : (last : LexFault) (text : List ℕ)
    → ((k : ℕ) → k < length text → is_byte2 34 92 (slice_index text k) ≡ true → ⊥)
    → last_fault last 0 text ≡ UnterminatedString
all-passed last [] none = refl
all-passed last (b ∷ bs) none =
    plain-step last b bs (false_from_ne_true _ (none 0 (omega arith)))
    ∙ all-passed (after_character last b) bs (λ k lt. none (suc k) (omega arith))

pub part-open : (text : List ℕ) → Nowhere (Passes (is_byte2 34 92) text) 0 (length text) → (last : LexFault)
    → last_fault last 0 text ≡ UnterminatedString
part-open text none last = all-passed last text (λ k lt. none k (omega arith) lt)

-- the characters before the offset, and the fault that they leave
before : (text : List ℕ) (i : ℕ) (fault : Option LexFault) → FirstAt (is_byte2 34 92) text i
    → ((last : LexFault) → or_last fault last ≡ after_characters last (take i text))
    → (last : LexFault) → last_fault last 0 text ≡ last_fault (or_last fault last) 0 (drop i text)
before text i fault f is last =
    passed i last text (omega (arith, f.0.high)) (λ k lt. f.0.before k (omega arith) lt)
    ∙ ap (λ l. last_fault l 0 (drop i text)) (sym (is last))

-- ---- the quote that ends the string

at-quote : (last : LexFault) (tail : List ℕ) → 0 < length tail → eqb (slice_index tail 0) 34 ≡ true
    → last_fault last 0 tail ≡ last
at-quote last [] some h = absurd (omega arith)
at-quote last (b ∷ bs) some h = rw h refl

pub part-quote : (text : List ℕ) (i : ℕ) (fault : Option LexFault) → FirstAt (is_byte2 34 92) text i
    → eqb (slice_index text i) 34 ≡ true
    → ((last : LexFault) → or_last fault last ≡ after_characters last (take i text)) → (last : LexFault)
    → last_fault last 0 text ≡ or_last fault last
part-quote text i fault f h is last =
    let le : i < length text = f.0.high in
    before text i fault f is last
    ∙ at-quote (or_last fault last) (drop i text) (omega (arith, length-drop i text))
    (ap (λ b. eqb b 34) (byte-at text i) ∙ h)

-- ---- a backslash, and what it takes along

along : (n : ℕ) (last : LexFault) (bs : List ℕ) → n ≤ length bs → last_fault last n bs ≡ last_fault last 0 (drop n bs)
along zero last bs le = refl
along (suc n) last [] le = absurd (omega arith)
along (suc n) last (b ∷ bs) le = along n last bs (omega arith)

at-slash : (last : LexFault) (tail : List ℕ) (n : ℕ) → eqb (slice_index tail 0) 92 ≡ true → n ≡ bad_escape_len tail
    → 0 < n → n ≤ length tail
    → last_fault last 0 tail ≡ last_fault (after_escape last tail) 0 (drop n tail)
at-slash last [] n h e some le = absurd (omega arith)
at-slash last (b ∷ bs) zero h e some le = absurd (omega arith)
at-slash last (b ∷ bs) (suc n) h e some le =
    let len : bad_escape_len (b ∷ bs) ≡ suc n = sym e in
    let quote : eqb b 34 ≡ false = ne_eqb b 34 (λ z. omega (arith, eqb-true b 92 h)) in
    let step : last_fault last 0 (b ∷ bs) ≡ last_fault (after_escape last (b ∷ bs)) (suc n - 1) bs =
    rw (len, quote, h) refl in
    let less : suc n - 1 ≡ n = omega arith in
    step ∙ ap (λ m. last_fault (after_escape last (b ∷ bs)) m bs) less
    ∙ along n (after_escape last (b ∷ bs)) bs (omega arith)

pub part-slash : (text : List ℕ) (i n : ℕ) (found fault : Option LexFault) → FirstAt (is_byte2 34 92) text i
    → eqb (slice_index text i) 34 ≡ false
    → n ≡ bad_escape_len (take (length text - i) (drop i text)) → 0 < n
    → n ≤ length (take (length text - i) (drop i text))
    → ((last : LexFault) → or_last fault last ≡ after_characters last (take i text))
    → ((last : LexFault) → or_last found last
    ≡ after_escape (or_last fault last) (take (length text - i) (drop i text)))
    → (0 < i + n) × (i + n ≤ length text)
    × ((last : LexFault) → last_fault last 0 text ≡ last_fault (or_last found last) 0 (drop (i + n) text))
part-slash text i n found fault f other e some within is after =
    let le : i < length text = f.0.high in
    let rest = slice-rest text i in
    let fits : n ≤ length (drop i text) = subst (λ (l : List ℕ). n ≤ length l) rest within in (
      omega arith,
      omega (arith, fits, length-drop i text),
      (λ last.
          before text i fault f is last
          ∙ at-slash (or_last fault last) (drop i text) n
          (ap (λ b. eqb b 92) (byte-at text i) ∙ slash-of text i f other) (e ∙ ap bad_escape_len rest) some fits
          ∙ ap (λ l. last_fault l 0 (drop n (drop i text)))
          (ap (after_escape (or_last fault last)) (sym rest) ∙ sym (after last))
          ∙ ap (last_fault (or_last found last) 0) (drop-drop n i text)),
    )

-- an escape that is a string character leaves the last fault, and any other escape has its own
pub good-escape : (last : LexFault) (tail : List ℕ) (n : ℕ) → n ≡ string_character_len tail → 0 < n
    → last ≡ after_escape last tail
good-escape last tail n e some =
    ap (λ t. cond t last (escape_fault tail)) (sym (lt-ltb 0 (string_character_len tail) (omega (arith, e, some))))

pub bad-escape : (last fault : LexFault) (tail : List ℕ) (n : ℕ) → n ≡ string_character_len tail → n ≤ 0
    → fault ≡ escape_fault tail
    → fault ≡ after_escape last tail
bad-escape last fault tail n e none is =
    is ∙ ap (λ t. cond t last (escape_fault tail)) (sym (le-ltb 0 (string_character_len tail) (omega (arith, e, none))))

-- ---- the message

pub message-made : (text bytes next : List ℕ) (n : ℕ) (fault : LexFault) → bytes ≡ text → n ≡ live_len Begin bytes
    → fault ≡ fault_behind n bytes
    → next ≡ drop n text
    → fault_message fault text next ≡ bad_text_message text
message-made text bytes next n fault same len is rest =
    let all : n ≡ live_len Begin text = len ∙ ap (live_len Begin) same in
    ap (λ f. fault_message f text next) (is ∙ ap (fault_behind n) same ∙ ap (λ m. fault_behind m text) all)
    ∙ ap (fault_message (fault_behind (live_len Begin text) text) text) (rest ∙ ap (λ m. drop m text) all)
