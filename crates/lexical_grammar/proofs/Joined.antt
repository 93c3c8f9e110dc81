-- Tokens that may follow one another directly are the cut of their joined texts.
use Rattle.std.proofs.Common.{inl, inr, ◌≡◌, ℕ, ◌+◌, ◌≢◌, true, false, List, [], ◌∷◌, ◌++◌, length, Some, refl, sym, ap}
use Rattle.std.proofs.Common.{subst, arith, get_or, eqb}
use Rattle.std.proofs.lemmas.Bool.{and_parts, cases_Bool}
use Rattle.std.proofs.lemmas.Bool.Decides.{nat_tests}
use Rattle.std.specs.Prelude.{not, bytes_eq}
use Rattle.lexical_grammar.proofs.Cuts.{tok-some, before-others, not-blank, follow-end}
use Rattle.lexical_grammar.proofs.Standing.{stands, read}
use Rattle.lexical_grammar.proofs.TokenReads.{goes_on}
use Rattle.lexical_grammar.specs.Begins.{is_whitespace}
use Rattle.lexical_grammar.specs.Characters.{is_name_continue}
use Rattle.lexical_grammar.specs.Cut.{may_follow, Stands, CutFrom, Cut, Word, texts, are_tokens}
use Rattle.lexical_grammar.specs.Edges.{edge_of, may_touch, touches, AreTokens, are_apart, joined, items_at}
use Rattle.lexical_grammar.specs.Kept.{kept_word, kept, Kept, Holds}
use Rattle.lexical_grammar.specs.Reads.{blanks_len}
use Rattle.lexical_grammar.specs.Strings.{begins}
use Rattle.lexical_grammar.specs.Tokens.{Tok}
use Rattle.lexical_grammar.specs.declared.TokenKind.{TokenKind}
use Rattle.lexical_grammar.specs.declared.TokenKind.TheVariants.{Whitespace, Comment, Name, StringValue, Int, Float}

-- what follows the token is allowed
follows-byte : (kind next : TokenKind) (text : List ℕ) (b : ℕ) (after : List ℕ)
    → may_touch (edge_of kind text) next b ≡ true
    → may_follow kind text (b ∷ after) ≡ true
follows-byte Int next text b after h = h
follows-byte Float next text b after h = h
follows-byte StringValue next text b after h = elim (cases_Bool (bytes_eq text (34 ∷ 34 ∷ []))) [
  | inl e ↦ rw e (quote-byte b after (rw e at h))
  | inr e ↦ rw e refl
] where
  quote-byte : (b : ℕ) (after : List ℕ) → not (eqb b 34) ≡ true → not (begins (34 ∷ []) (b ∷ after)) ≡ true
  quote-byte b after h = grind (arith, nat_tests)
follows-byte _ next text b after h = refl

-- and the token doesn't go on into it
stops-byte : (kind next : TokenKind) (text : List ℕ) (b : ℕ) (after : List ℕ)
    → may_touch (edge_of kind text) next b ≡ true
    → (next ≢ Whitespace → blanks_len 0 (b ∷ after) ≡ 0) → goes_on kind (b ∷ after) ≡ 0
stops-byte Whitespace next text b after h blank = blank (other next h) where
  other : (next : TokenKind) → not (is_whitespace (Some next)) ≡ true → next ≢ Whitespace
  other next h e = let no : not (is_whitespace (Some Whitespace)) ≡ true =
      subst (λ k. not (is_whitespace (Some k)) ≡ true) e h in (cc)
stops-byte Comment next text b after h blank = rw h refl
stops-byte Name next text b after h blank = let e : is_name_continue b ≡ false = grind (arith, nat_tests) in rw e refl
stops-byte _ next text b after h blank = refl

by-front : (word : Word) (kind : TokenKind) (text rest : List ℕ) → Tok word.kind word.text → Stands kind text rest
    → may_touch (edge_of word.kind word.text) kind (get_or text 0 0) ≡ true
    → Stands word.kind word.text (text ++ rest)
by-front word kind [] rest tok s h = absurd (omega (arith, tok-some kind [] s.token))
by-front word kind (b ∷ text) rest tok s h =
    stands word.kind word.text ((b ∷ text) ++ rest) tok (follows-byte word.kind kind word.text b (text ++ rest) h)
    (stops-byte word.kind kind word.text b (text ++ rest) h
    (λ other. not-blank kind (length (b ∷ text)) ((b ∷ text) ++ rest)
    (read kind (b ∷ text) rest s) other))

-- a token before another one that may follow it directly
before-token : (word next : Word) (rest : List ℕ) → Tok word.kind word.text
    → touches (edge_of word.kind word.text) next ≡ true
    → Stands next.kind next.text rest → Stands word.kind word.text (next.text ++ rest)
before-token word next rest tok h s = by-front word next.kind next.text rest tok s h

goes-end : (kind : TokenKind) → goes_on kind [] ≡ 0
goes-end Whitespace = refl
goes-end Comment = refl
goes-end Name = refl
goes-end _ = refl

pub items-text : (words : List Word) (offset : ℕ) → texts (items_at offset words) ≡ joined words
items-text [] offset = refl
items-text (word ∷ words) offset = ap (λ l. word.text ++ l) (items-text words _)

-- the first of the tokens is before the others
first-stands : (word : Word) (words : List Word) → AreTokens (word ∷ words) → are_apart (word ∷ words) ≡ true
    → Stands word.kind word.text (joined words)
first-stands word [] ts h = stands word.kind word.text [] ts.0 (follow-end word.kind word.text) (goes-end word.kind)
first-stands word (next ∷ words) ts h =
    let q = and_parts (touches (edge_of word.kind word.text) next) (are_apart (next ∷ words)) h in
    before-token word next (joined words) ts.0 q.0 (first-stands next words ts.1 q.1)

rest-apart : (word : Word) (words : List Word) → are_apart (word ∷ words) ≡ true → are_apart words ≡ true
rest-apart word [] h = refl
rest-apart word (next ∷ words) h =
    (and_parts (touches (edge_of word.kind word.text) next) (are_apart (next ∷ words)) h).1

items-cut : (words : List Word) (offset : ℕ) → AreTokens words → are_apart words ≡ true
    → CutFrom offset (items_at offset words)
items-cut [] offset ts h = refl
items-cut (word ∷ words) offset ts h =
    before-others offset (record { kind = Some word.kind; text = word.text; index = offset })
    (items_at (offset + length word.text) words) refl
    (subst (Stands word.kind word.text) (sym (items-text words _)) (first-stands word words ts h))
    (items-cut words (offset + length word.text) ts.1 (rest-apart word words h))

pub joined-cut : (words : List Word) → AreTokens words → are_apart words ≡ true → Cut (joined words) (items_at 0 words)
joined-cut words ts h = record { joined = items-text words 0; each = items-cut words 0 ts h }

pub items-tokens : (words : List Word) (offset : ℕ) → are_tokens (items_at offset words) ≡ true
items-tokens [] offset = refl
items-tokens (word ∷ words) offset = items-tokens words _

pub items-kept : (words : List Word) (offset : ℕ) → Kept (items_at offset words) ≡ kept words
items-kept [] offset = refl
items-kept (word ∷ words) offset = ap (λ l. kept_word word ++ l) (items-kept words _)

pub holds : (words : List Word) → AreTokens words → are_apart words ≡ true → Holds (joined words) (kept words)
holds words ts h = record {
  items = items_at 0 words;
  cut = joined-cut words ts h;
  tokens = items-tokens words 0;
  same = items-kept words 0;
}
