-- Line feeds and spaces at the end of the output: a token of their own, or more of the white space there.
use Rattle.std.proofs.Common.{inl, inr, ◌≡◌, ℕ, ◌<◌, true, List, [], ◌∷◌, ◌++◌, length, get_or, take, zero, suc, refl}
use Rattle.std.proofs.Common.{sym, ap, ◌∙◌, subst, arith, append_assoc, append-nil, length-append}
use Rattle.std.proofs.lemmas.Bool.{and_parts, and_from, cases_Bool}
use Rattle.std.proofs.lemmas.Bool.Decides.{nat_tests}
use Rattle.std.proofs.lemmas.List.Folds.{list_all-append}
use Rattle.std.proofs.lemmas.Str.{encodes-IsAscii, encodes-append}
use Rattle.std.specs.List.{list_all}
use Rattle.std.specs.Prelude.{◌-◌, bytes_eq, encode_utf8_all, slice_index, slice_range}
use Rattle.std.specs.Str.{IsAscii}
use Rattle.lexical_grammar.proofs.Cuts.{tok-some}
use Rattle.lexical_grammar.specs.Characters.{is_blank}
use Rattle.lexical_grammar.specs.Cut.{Word}
use Rattle.lexical_grammar.specs.Edges.{edge_of, may_touch, touches, AreTokens, are_apart, last_edge, joined}
use Rattle.lexical_grammar.specs.Kept.{kept_word, kept}
use Rattle.lexical_grammar.specs.Tokens.{IsBlanks, Tok}
use Rattle.lexical_grammar.specs.declared.TokenKind.{TokenKind}
use Rattle.lexical_grammar.specs.declared.TokenKind.TheVariants.{Whitespace, StringValue}
use Rattle.lexical_grammar.specs.declared.edge.Edge.{Edge}
use Rattle.lexical_grammar.specs.declared.edge.Edge.TheVariants as ends
use Rattle.format_layout.proofs.Tokens.{one-more}
use Rattle.format_layout.specs.Laid.{Laid, Keeps, blank_room, is_gap_byte, takes_blank}

gap-byte-blank : (b : ℕ) → is_gap_byte b ≡ true → is_blank b ≡ true
gap-byte-blank b h = grind (arith, nat_tests)

gap-byte-small : (b : ℕ) → is_gap_byte b ≡ true → b < 128
gap-byte-small b h = grind (arith, nat_tests)

run-blank : (run : List ℕ) → list_all is_gap_byte run ≡ true → list_all is_blank run ≡ true
run-blank [] h = refl
run-blank (b ∷ run) h = let q = and_parts (is_gap_byte b) (list_all is_gap_byte run) h in
    and_from _ _ (gap-byte-blank b q.0) (run-blank run q.1)

run-ascii : (run : List ℕ) → list_all is_gap_byte run ≡ true → IsAscii run
run-ascii [] h i = omega arith
run-ascii (b ∷ run) h zero = gap-byte-small b (and_parts (is_gap_byte b) (list_all is_gap_byte run) h).0
run-ascii (b ∷ run) h (suc i) = run-ascii run (and_parts (is_gap_byte b) (list_all is_gap_byte run) h).1 i

-- line feeds and spaces are white space
blanks : (run : List ℕ) → 0 < length run → list_all is_gap_byte run ≡ true → IsBlanks run
blanks run some h = record {
  characters = run;
  some = some;
  blank = run-blank run h;
  spelled = encodes-IsAscii run (run-ascii run h);
}

-- and so is white space with more of it
more-blanks : (text run : List ℕ) → IsBlanks text → IsBlanks run → IsBlanks (text ++ run)
more-blanks text run a b = record {
  characters = a.characters ++ b.characters;
  some = omega (arith, length-append a.characters b.characters, a.some);
  blank = list_all-append is_blank a.characters b.characters ∙ and_from _ _ a.blank b.blank;
  spelled = encodes-append a.characters b.characters ∙ ap (λ l. encode_utf8_all a.characters ++ l) b.spelled
      ∙ ap (λ l. l ++ run) a.spelled;
}

-- only white space ends in this edge
whitespace-kind : (kind : TokenKind) (text : List ℕ) → edge_of kind text ≡ ends.Whitespace → kind ≡ Whitespace
whitespace-kind Whitespace text e = refl
whitespace-kind StringValue text e = elim (cases_Bool (bytes_eq text (34 ∷ 34 ∷ []))) [
  | inl q ↦ absurd (let no = rw q at e in cc)
  | inr q ↦ absurd (let no = rw q at e in cc)
]
whitespace-kind _ text e = absurd (cc)

-- the tokens with more text in the last one
abbrev extended : List Word → List ℕ → List Word
extended [] run = []
extended (word ∷ []) run = record { kind = word.kind; text = word.text ++ run } ∷ []
extended (word ∷ next ∷ words) run = word ∷ extended (next ∷ words) run

extended-text : (words : List Word) (run : List ℕ) → last_edge words ≡ ends.Whitespace
    → joined (extended words run) ≡ joined words ++ run
extended-text [] run e = absurd (cc)
extended-text (word ∷ []) run e = append-nil _ ∙ ap (λ l. l ++ run) (sym (append-nil word.text))
extended-text (word ∷ next ∷ words) run e = ap (λ l. word.text ++ l) (extended-text (next ∷ words) run e)
    ∙ sym (append_assoc word.text (joined (next ∷ words)) run)

extended-tokens : (words : List Word) (run : List ℕ) → IsBlanks run → last_edge words ≡ ends.Whitespace
    → AreTokens words → AreTokens (extended words run)
extended-tokens [] run b e ts = tt
extended-tokens (word ∷ []) run b e ts =
    (tok word.kind word.text (whitespace-kind word.kind word.text e) ts.0, tt) where
      tok : (kind : TokenKind) (text : List ℕ) → kind ≡ Whitespace → Tok kind text → Tok kind (text ++ run)
      tok kind text k t = subst (λ k. Tok k (text ++ run)) (sym k)
          (more-blanks text run (subst (λ k. Tok k text) k t) b)
extended-tokens (word ∷ next ∷ words) run b e ts = (ts.0, extended-tokens (next ∷ words) run b e ts.1)

first-byte : (text run : List ℕ) → 0 < length text → get_or (text ++ run) 0 0 ≡ get_or text 0 0
first-byte [] run some = absurd (omega arith)
first-byte (b ∷ text) run some = refl

extended-apart : (words : List Word) (run : List ℕ) → AreTokens words → are_apart words ≡ true
    → are_apart (extended words run) ≡ true
extended-apart [] run ts h = refl
extended-apart (word ∷ []) run ts h = refl
extended-apart (word ∷ next ∷ []) run ts h =
    let q = and_parts (touches (edge_of word.kind word.text) next) true h in
    and_from _ _ (ap (λ b. may_touch (edge_of word.kind word.text) next.kind b)
    (first-byte next.text run (tok-some next.kind next.text ts.1.0)) ∙ q.0) refl
extended-apart (word ∷ next ∷ third ∷ words) run ts h =
    let q = and_parts (touches (edge_of word.kind word.text) next) (are_apart (next ∷ third ∷ words)) h in
    and_from _ _ q.0 (extended-apart (next ∷ third ∷ words) run ts.1 q.1)

extended-last : (words : List Word) (run : List ℕ) → last_edge words ≡ ends.Whitespace
    → last_edge (extended words run) ≡ ends.Whitespace
extended-last [] run e = e
extended-last (word ∷ []) run e = ap (λ k. edge_of k (word.text ++ run)) (whitespace-kind word.kind word.text e)
extended-last (word ∷ next ∷ []) run e = extended-last (next ∷ []) run e
extended-last (word ∷ next ∷ third ∷ words) run e = extended-last (next ∷ third ∷ words) run e

extended-kept : (words : List Word) (run : List ℕ) → last_edge words ≡ ends.Whitespace
    → kept (extended words run) ≡ kept words
extended-kept [] run e = refl
extended-kept (word ∷ []) run e = let k = whitespace-kind word.kind word.text e in rw k refl
extended-kept (word ∷ next ∷ words) run e = ap (λ l. kept_word word ++ l) (extended-kept (next ∷ words) run e)

extended-length : (words : List Word) (run : List ℕ) → length (extended words run) ≡ length words
extended-length [] run = refl
extended-length (word ∷ []) run = refl
extended-length (word ∷ next ∷ words) run = ap suc (extended-length (next ∷ words) run)

-- more of the white space at the end
goes-on : (text run : List ℕ) (most : ℕ) (words : List Word) → IsBlanks run → Laid text ends.Whitespace most words
    → Laid (text ++ run) ends.Whitespace most words
goes-on text run most words b l = record {
  all = extended l.all run;
  spelled = extended-text l.all run l.ends ∙ ap (λ r. r ++ run) l.spelled;
  tokens = extended-tokens l.all run b l.ends l.tokens;
  apart = extended-apart l.all run l.tokens l.apart;
  ends = extended-last l.all run l.ends;
  same = extended-kept l.all run l.ends ∙ l.same;
  few = omega (arith, l.few, extended-length l.all run);
}

-- white space as a token of its own
begins : (text run : List ℕ) (edge : Edge) (most : ℕ) (words : List Word) → IsBlanks run → blank_room edge ≡ 1
    → may_touch edge Whitespace (slice_index run 0) ≡ true → Laid text edge most words
    → Laid (text ++ run) ends.Whitespace most words
begins text run edge most words b r h l =
    subst (λ k. Laid (text ++ run) ends.Whitespace most k) (append-nil words)
    (one-more text edge most most words (record { kind = Whitespace; text = run }) (omega (arith, r)) l b h)

-- line feeds and spaces where the first of them may follow
blanks-keep : (text run : List ℕ) (edge : Edge) (most : ℕ) → 0 < length run → list_all is_gap_byte run ≡ true
    → takes_blank edge (slice_index run 0) ≡ true
    → Keeps text edge most (text ++ run) ends.Whitespace most
blanks-keep text run ends.Whitespace most some g h words l = goes-on text run most words (blanks run some g) l
blanks-keep text run ends.Free most some g h words l = begins text run ends.Free most words (blanks run some g) refl h l
blanks-keep text run ends.Comment most some g h words l =
    begins text run ends.Comment most words (blanks run some g) refl h l
blanks-keep text run ends.Name most some g h words l = begins text run ends.Name most words (blanks run some g) refl h l
blanks-keep text run ends.Number most some g h words l =
    begins text run ends.Number most words (blanks run some g) refl h l
blanks-keep text run ends.EmptyString most some g h words l =
    begins text run ends.EmptyString most words (blanks run some g) refl h l

pub blanks-pushed : (text more run : List ℕ) (edge : Edge) (most : ℕ) → more ≡ text ++ run → 0 < length run
    → list_all is_gap_byte run ≡ true
    → takes_blank edge (slice_index run 0) ≡ true → Keeps text edge most more ends.Whitespace most
blanks-pushed text more run edge most m some g h words l =
    subst (λ t. Laid t ends.Whitespace most words) (sym m) (blanks-keep text run edge most some g h words l)

-- the front of spaces is spaces
some-spaces : (run : List ℕ) (n : ℕ) → list_all is_gap_byte run ≡ true → list_all is_gap_byte (take n run) ≡ true
some-spaces [] zero h = refl
some-spaces [] (suc n) h = refl
some-spaces (b ∷ run) zero h = refl
some-spaces (b ∷ run) (suc n) h = let q = and_parts (is_gap_byte b) (list_all is_gap_byte run) h in
    and_from _ _ q.0 (some-spaces run n q.1)

pub front-of-spaces : (spaces run : List ℕ) (n : ℕ) → run ≡ slice_range spaces 0 n → list_all is_gap_byte spaces ≡ true
    → list_all is_gap_byte run ≡ true
front-of-spaces spaces run n e h = subst (λ l. list_all is_gap_byte l ≡ true) (sym e) (some-spaces spaces (n - 0) h)
