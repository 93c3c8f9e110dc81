-- What a call gives, by its status.
use Rattle.std.proofs.Common.{◌≡◌, sym, subst, ◌<◌, ℕ, List, [], ◌∷◌, length, refl, arith, inl, inr, ⊎_elim}
use Rattle.std.specs.List.{Contains}
use Rattle.std.specs.Str.{IsUtf8}
use Rattle.apollo_tree.specs.declared.compact.CompactElement.{CompactElement}
use Rattle.apollo_parser.specs.Compact.{compact_elements}
use Rattle.apollo_parser.specs.Diagnostics.{Diagnostic}
use Rattle.apollo_parser.specs.Filled.{filled}
use Rattle.apollo_parser.specs.Forests.{text}
use Rattle.apollo_parser.specs.Order.{order}
use Rattle.apollo_parser.specs.Parsed.{Parsed}
use Rattle.apollo_parser.specs.StringValues.{IsStringValue}
use Rattle.apollo_parser.specs.Tokens.{IsString}
use Rattle.formatter.specs.Formatted.{IsNoDocument, MayExceed}
use Rattle.c_parsing.proofs.ValueLengths.{no_longer}
use Rattle.c_parsing.specs.Outcomes.{Buffers, IsTooLong, ParseOutcome, counts_of, FormatOutcome, StringOutcome}
use Rattle.c_parsing.specs.Outcomes.{no_counts, written, OK, NOT_UTF8, TOO_LONG, NO_MEMORY, NOT_A_STRING}
use Rattle.c_parsing.specs.Outcomes.{NOT_A_DOCUMENT, NO_ROOM}
use Rattle.c_parsing.specs.Rows.{error_rows, messages}
use Rattle.c_parsing.specs.declared.rows.ByteCount.{ByteCount}
use Rattle.c_parsing.specs.declared.rows.Counts.{Counts}
use Rattle.c_parsing.specs.declared.rows.ErrorRow.{ErrorRow}

-- ---- a parse of which P holds

of-parse : (P : Parsed → Type 0) (source : List ℕ) (before : Buffers) (parsed : Parsed) → P parsed
    → ParseOutcome P source before (written before parsed) (counts_of parsed)
of-parse P source before parsed p = record {
  ok = λ _. (parsed, p, refl, refl);
  not_utf8 = λ e. absurd (omega (arith, e));
  too_long = λ e. absurd (omega (arith, e));
  refused = λ some. absurd (some refl);
  known = (0, omega arith, refl);
}

of-refused : (P : Parsed → Type 0) (source : List ℕ) (before : Buffers) (status : ℕ) → OK < status
    → Contains (OK ∷ NOT_UTF8 ∷ TOO_LONG ∷ NO_MEMORY ∷ []) status
    → (status ≡ NOT_UTF8 → ¬ IsUtf8 source) → (status ≡ TOO_LONG → IsTooLong P source)
    → ParseOutcome P source before before (no_counts status)
of-refused P source before status some known utf8 long = record {
  ok = λ e. absurd (omega (arith, e));
  not_utf8 = utf8;
  too_long = long;
  refused = λ _. (refl, refl);
  known = known;
}

pub of-too-long : (P : Parsed → Type 0) (source : List ℕ) (before : Buffers) (counts : Counts)
    → counts ≡ no_counts TOO_LONG → IsTooLong P source
    → ParseOutcome P source before before counts
of-too-long P source before counts is long =
    rw is (of-refused P source before TOO_LONG (omega arith) (2, omega arith, refl)
    (λ e. absurd (omega (arith, e))) (λ _. long))

pub of-no-memory : (P : Parsed → Type 0) (source : List ℕ) (before : Buffers) (counts : Counts)
    → counts ≡ no_counts NO_MEMORY
    → ParseOutcome P source before before counts
of-no-memory P source before counts is =
    rw is (of-refused P source before NO_MEMORY (omega arith) (3, omega arith, refl) (λ e. absurd (omega (arith, e)))
    (λ e. absurd (omega (arith, e))))

-- the buffers after all of a parse was written, where its errors are known as `found`
pub of-written : (source : List ℕ) (before : Buffers) (parsed : Parsed) (rows : List CompactElement)
    (errors : List ErrorRow) (words : List ℕ)
    (found : List Diagnostic) (elements length_of_text bytes depth items : ℕ) → found ≡ parsed.errors
    → rows ≡ filled before.elements (compact_elements parsed.tree)
    → errors ≡ filled before.errors (error_rows 0 found) → words ≡ filled before.messages (messages found)
    → elements ≡ length (order parsed.tree)
    → length_of_text ≡ length (text parsed.tree) → bytes ≡ length (messages found) → depth ≡ parsed.recursion_limit.high
    → items ≡ parsed.token_limit.high
    → ParseOutcome (λ p. p ≡ parsed) source before (record { elements = rows; errors = errors; messages = words })
    (record {
      elements = elements;
      text_bytes = length_of_text;
      errors = length found;
      message_bytes = bytes;
      recursion_high = depth;
      token_high = items;
      status = OK;
    })
of-written source before parsed rows errors words found elements length_of_text bytes depth items f a b c d t e g h =
    rw (a, b, c, d, t, e, g, h, f) (of-parse (λ p. p ≡ parsed) source before parsed refl)

-- The outcome of writing a parse, of which P holds: it is a parse of a text that is the source, within the same limits.
pub of-its-parse : (P : List ℕ → ℕ → ℕ → Parsed → Type 0) (source text : List ℕ)
    (max_depth depth max_items items : ℕ) (parsed : Parsed)
    (before after : Buffers) (counts : Counts) → text ≡ source → depth ≡ max_depth → items ≡ max_items
    → P text depth items parsed
    → ParseOutcome (λ p. p ≡ parsed) source before after counts
    → ParseOutcome (P source max_depth max_items) source before after counts
of-its-parse P source text max_depth depth max_items items parsed before after counts same_text same_depth same_items
    p o =
    let holds : P source max_depth max_items parsed = rw (← same_text, ← same_depth, ← same_items) p in
    let of_it : (other : Parsed) → other ≡ parsed → P source max_depth max_items other =
    λ (other : Parsed) e. subst (P source max_depth max_items) (sym e) holds in
    record {
      ok = λ e. let found = o.ok e in (found.0, of_it found.0 found.1, found.2, found.3);
      not_utf8 = o.not_utf8;
      too_long = λ e. ⊎_elim (λ long. inl long) (λ many. inr (many.0, of_it many.0 many.1, many.2)) (o.too_long e);
      refused = o.refused;
      known = o.known;
    }

-- ---- one text

pub string-written : (literal text value shown before after : List ℕ) (count : ByteCount) → text ≡ literal
    → IsStringValue text value → shown ≡ value
    → after ≡ filled before shown
    → count ≡ record { bytes = length shown; status = OK } → StringOutcome literal before after count
string-written literal text value shown before after count same is as_value all counted =
    let value_of : IsStringValue literal shown =
    subst (λ (t : List ℕ). IsStringValue t shown) same (subst (IsStringValue text) (sym as_value) is) in
    rw (all, counted) (record {
      ok = λ _. (shown, value_of, refl, refl);
      not_utf8 = λ e. absurd (omega (arith, e));
      not_a_string = λ e. absurd (omega (arith, e));
      refused = λ some. absurd (some refl);
      known = (0, omega arith, refl);
      no_longer = no_longer literal shown value_of;
    })

pub not-a-string : (literal text before : List ℕ) (count : ByteCount) → text ≡ literal → ¬ IsString text
    → count ≡ record { bytes = 0; status = NOT_A_STRING }
    → StringOutcome literal before before count
not-a-string literal text before count same other counted = rw counted (record {
  ok = λ e. absurd (omega (arith, e));
  not_utf8 = λ e. absurd (omega (arith, e));
  not_a_string = λ _. subst (λ (t : List ℕ). ¬ IsString t) same other;
  refused = λ _. (refl, refl);
  known = (2, omega arith, refl);
  no_longer = omega arith;
})

pub not-a-document : (source text : List ℕ) (r k : ℕ) (before : List ℕ) (count : ByteCount) → text ≡ source
    → IsNoDocument text r k
    → count ≡ record { bytes = 0; status = NOT_A_DOCUMENT } → FormatOutcome source r k before before count
not-a-document source text r k before count same refused counted = rw counted (record {
  ok = λ e. absurd (omega (arith, e));
  whole = omega arith;
  not_utf8 = λ e. absurd (omega (arith, e));
  no_room = λ e. absurd (omega (arith, e));
  not_a_document = λ _. subst (λ (t : List ℕ). IsNoDocument t r k) same refused;
  refused = λ _. (refl, refl);
  known = (2, omega arith, refl);
})

pub no-room : (source text : List ℕ) (r k room : ℕ) (before : List ℕ) (count : ByteCount) → text ≡ source
    → room ≡ length before → MayExceed text r k room
    → count ≡ record { bytes = 0; status = NO_ROOM } → FormatOutcome source r k before before count
no-room source text r k room before count same all long counted = rw counted (record {
  ok = λ e. absurd (omega (arith, e));
  whole = omega arith;
  not_utf8 = λ e. absurd (omega (arith, e));
  no_room = λ _. subst (λ (t : List ℕ). MayExceed t r k (length before)) same
      (subst (λ (n : ℕ). MayExceed text r k n) all long);
  not_a_document = λ e. absurd (omega (arith, e));
  refused = λ _. (refl, refl);
  known = (3, omega arith, refl);
})
