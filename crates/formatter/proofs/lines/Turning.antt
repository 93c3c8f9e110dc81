-- A token stays one of its kind.
use Rattle.std.proofs.Common.{◌≡◌, ℕ, ◌⊎◌, Bool, true, false, cond, List, [], ◌∷◌, ◌++◌, refl, sym, ap, ◌∙◌, subst, inl}
use Rattle.std.proofs.Common.{inr, eqb, arith}
use Rattle.std.proofs.lemmas.Bool.{and_from, cases_Bool}
use Rattle.std.specs.List.{prefix_len}
use Rattle.std.specs.Prelude.{not, ◌&&◌, ◌||◌, bytes_eq}
use Rattle.lexical_grammar.proofs.NumberStates.{int-kind, float-kind, kind-live}
use Rattle.lexical_grammar.proofs.Runs.{run-stops}
use Rattle.lexical_grammar.proofs.Standing.{stands, stops}
use Rattle.lexical_grammar.proofs.TokenReads.{goes_on}
use Rattle.lexical_grammar.specs.Characters.{is_comment_character, is_line_terminator, is_name_continue, is_white_space}
use Rattle.lexical_grammar.specs.Cut.{Stands, ends_number, may_follow}
use Rattle.lexical_grammar.specs.Kept.{kept_word}
use Rattle.lexical_grammar.specs.Reads.{blank_len, blanks_len}
use Rattle.lexical_grammar.specs.Strings.{begins}
use Rattle.lexical_grammar.specs.Tokens.{Tok, IsString}
use Rattle.lexical_grammar.specs.declared.NumberState.TheVariants.{Begin}
use Rattle.lexical_grammar.specs.declared.TokenKind.{TokenKind}
use Rattle.lexical_grammar.specs.declared.TokenKind.TheVariants.{Whitespace, Comment, Bang, Dollar, Amp, Spread, Comma}
use Rattle.lexical_grammar.specs.declared.TokenKind.TheVariants.{Colon, Eq, At, LParen, RParen, LBracket, RBracket}
use Rattle.lexical_grammar.specs.declared.TokenKind.TheVariants.{LCurly, RCurly, Pipe, Eof, Name, StringValue, Int}
use Rattle.lexical_grammar.specs.declared.TokenKind.TheVariants.{Float}
use Rattle.format_layout.proofs.Respelling.{same-refl}
use Rattle.format_layout.specs.Respelled.{AreSameWords}
use Rattle.formatter.proofs.lines.Blanks.{blanks}
use Rattle.formatter.proofs.lines.Blocks.{turned-block, same-block, block-end}
use Rattle.formatter.proofs.lines.Ends.{turn, ends_cr, byte, turn-plain, turn-append, unbroken-same, unbroken-end}
use Rattle.formatter.proofs.lines.Ends.{begins-same}
use Rattle.formatter.proofs.lines.Unbroken.{is_unbroken, of-class, name-class, start-class, of-number, of-quoted}
use Rattle.formatter.specs.LineEnds.{end_bytes}
use Rattle.formatter.specs.declared.line_ends.LineEnd.{LineEnd}
use Rattle.formatter.specs.declared.line_ends.LineEnd.TheVariants.{Lf, Crlf}

-- It is still a token of the kind, and the same one if it is kept. Only white space may end with a CR.
pub record Turned (end : LineEnd) (kind : TokenKind) (text : List ℕ) : Type 0 where
  pub token : Tok kind (turn end false text)
  pub same : AreSameWords (kept_word (record { kind = kind; text = text }))
      (kept_word (record { kind = kind; text = turn end false text }))
  pub ends : (kind ≡ Whitespace) ⊎ (ends_cr false text ≡ false)

unbroken : (end : LineEnd) (kind : TokenKind) (text : List ℕ) → Tok kind text → is_unbroken text → Turned end kind text
unbroken end kind text tok h =
    let same = sym (unbroken-same end false text h) in
    let word = kept_word (record { kind = kind; text = text }) in
    record {
      token = subst (Tok kind) same tok;
      same = subst (λ t. AreSameWords word (kept_word (record { kind = kind; text = t }))) same (same-refl word);
      ends = inr (unbroken-end text h);
    }

string : (end : LineEnd) (text : List ℕ) → IsString text → Turned end StringValue text
string end text (inl (value, q)) = unbroken end StringValue text (inl (value, q)) (of-quoted text value q)
string end text (inr (raw, b)) = record {
  token = inr (turn end false raw, turned-block end text raw b);
  same = (inr (refl, refl, same-block end text raw b), tt);
  ends = inr (block-end text raw b);
}

pub turned : (end : LineEnd) (kind : TokenKind) (text : List ℕ) → Tok kind text → Turned end kind text
turned end Whitespace text tok = record { token = blanks end text tok; same = tt; ends = inl refl }
turned end Comment [] tok = elim tok [ ]
turned end Comment (c ∷ text) tok =
    unbroken end Comment (c ∷ text) tok (and_from _ _ (ap is_comment_character tok.0) tok.1)
turned end Name [] tok = elim tok [ ]
turned end Name (c ∷ text) tok =
    unbroken end Name (c ∷ text) tok
    (and_from _ _ (start-class c tok.0) (of-class is_name_continue name-class text tok.1))
turned end StringValue text tok = string end text tok
turned end Int text tok = unbroken end Int text tok (of-number Begin text (kind-live Int _ (int-kind text tok)))
turned end Float text tok = unbroken end Float text tok (of-number Begin text (kind-live Float _ (float-kind text tok)))
turned end Eof text tok = elim tok [ ]
turned end Bang text tok = unbroken end Bang text tok (rw tok refl)
turned end Dollar text tok = unbroken end Dollar text tok (rw tok refl)
turned end Amp text tok = unbroken end Amp text tok (rw tok refl)
turned end Spread text tok = unbroken end Spread text tok (rw tok refl)
turned end Comma text tok = unbroken end Comma text tok (rw tok refl)
turned end Colon text tok = unbroken end Colon text tok (rw tok refl)
turned end Eq text tok = unbroken end Eq text tok (rw tok refl)
turned end At text tok = unbroken end At text tok (rw tok refl)
turned end LParen text tok = unbroken end LParen text tok (rw tok refl)
turned end RParen text tok = unbroken end RParen text tok (rw tok refl)
turned end LBracket text tok = unbroken end LBracket text tok (rw tok refl)
turned end RBracket text tok = unbroken end RBracket text tok (rw tok refl)
turned end LCurly text tok = unbroken end LCurly text tok (rw tok refl)
turned end RCurly text tok = unbroken end RCurly text tok (rw tok refl)
turned end Pipe text tok = unbroken end Pipe text tok (rw tok refl)

-- what follows it is allowed
line-ends : (end : LineEnd) (after : List ℕ) → ends_number (end_bytes end ++ after) ≡ true
line-ends Lf after = refl
line-ends Crlf after = refl

number-ends : (end : LineEnd) (after : List ℕ) → ends_number after ≡ true → ends_number (turn end false after) ≡ true
number-ends end [] h = refl
number-ends end (c ∷ after) h = elim (byte c) [
  | inl e ↦ rw e (line-ends end (turn end true after))
  | inr (inl e) ↦ rw e (line-ends end (turn end false after))
  | inr (inr p) ↦ subst (λ t. ends_number t ≡ true) (sym (turn-plain end false c after p)) h
]

string-follows : (end : LineEnd) (text after : List ℕ) → IsString text → may_follow StringValue text after ≡ true
    → may_follow StringValue (turn end false text) (turn end false after) ≡ true
string-follows end text after (inl (value, q)) h =
    subst (λ t. may_follow StringValue t (turn end false after) ≡ true)
    (sym (unbroken-same end false text (of-quoted text value q)))
    (ap (λ quote. not (bytes_eq text (34 ∷ 34 ∷ []) && quote)) (begins-same end (34 ∷ []) after refl) ∙ h)
string-follows end text after (inr (raw, b)) h =
    subst (λ t. may_follow StringValue (turn end false t) (turn end false after) ≡ true) (sym b.spelled) refl

follows : (end : LineEnd) (kind : TokenKind) (text after : List ℕ) → Tok kind text → may_follow kind text after ≡ true
    → may_follow kind (turn end false text) (turn end false after) ≡ true
follows end Int text after tok h = number-ends end after h
follows end Float text after tok h = number-ends end after h
follows end StringValue text after tok h = string-follows end text after tok h
follows end _ text after tok h = refl

-- and it does not go on into that
blank-same : (end : LineEnd) (c : ℕ) (after : List ℕ) → is_line_terminator c ≡ false
    → blank_len (c ∷ turn end false after) ≡ blank_len (c ∷ after)
blank-same end c after p =
    ap (λ mark. cond (is_white_space c || is_line_terminator c) 1 (cond mark 3 0))
    (ap (begins (239 ∷ 187 ∷ 191 ∷ [])) (sym (turn-plain end false c after p))
    ∙ begins-same end (239 ∷ 187 ∷ 191 ∷ []) (c ∷ after) refl)

blank-none : (c : ℕ) (after : List ℕ) → blanks_len 0 (c ∷ after) ≡ 0 → eqb (blank_len (c ∷ after)) 0 ≡ true
blank-none c after h = elim (cases_Bool (eqb (blank_len (c ∷ after)) 0)) [
  | inl e ↦ e
  | inr e ↦ absurd (let k = rw e at h in omega (arith, k))
]

blanks-stop : (end : LineEnd) (after : List ℕ) → blanks_len 0 after ≡ 0 → blanks_len 0 (turn end false after) ≡ 0
blanks-stop end [] h = refl
blanks-stop end (c ∷ after) h = elim (byte c) [
  | inl e ↦ absurd (let k = rw e at h in omega (arith, k))
  | inr (inl e) ↦ absurd (let k = rw e at h in omega (arith, k))
  | inr (inr p) ↦
      let none : eqb (blank_len (c ∷ turn end false after)) 0 ≡ true =
      ap (λ n. eqb n 0) (blank-same end c after p) ∙ blank-none c after h in
      ap (blanks_len 0) (turn-plain end false c after p) ∙ rw none refl
]

run-none : (end : LineEnd) (p : ℕ → Bool) → p 13 ≡ false → p 10 ≡ false → (after : List ℕ)
    → prefix_len p (end_bytes end ++ after) ≡ 0
run-none Lf p cr lf after = rw lf refl
run-none Crlf p cr lf after = rw cr refl

run-ends : (end : LineEnd) (p : ℕ → Bool) → p 13 ≡ false → p 10 ≡ false → (after : List ℕ) → prefix_len p after ≡ 0
    → prefix_len p (turn end false after) ≡ 0
run-ends end p cr lf [] h = refl
run-ends end p cr lf (c ∷ after) h = elim (byte c) [
  | inl e ↦ rw e (run-none end p cr lf (turn end true after))
  | inr (inl e) ↦ rw e (run-none end p cr lf (turn end false after))
  | inr (inr q) ↦ ap (prefix_len p) (turn-plain end false c after q) ∙ run-stops p c after (turn end false after) h
]

goes : (end : LineEnd) (kind : TokenKind) (after : List ℕ) → goes_on kind after ≡ 0
    → goes_on kind (turn end false after) ≡ 0
goes end Whitespace after h = blanks-stop end after h
goes end Comment after h = run-ends end is_comment_character refl refl after h
goes end Name after h = run-ends end is_name_continue refl refl after h
goes end _ after h = refl

-- so it is the token there
pub turned-stands : (end : LineEnd) (kind : TokenKind) (text after : List ℕ) → Stands kind text after
    → Stands kind (turn end false text) (turn end false after)
turned-stands end kind text after s =
    stands kind (turn end false text) (turn end false after) (turned end kind text s.token).token
    (follows end kind text after s.token s.follows)
    (goes end kind after (stops kind text after s))

-- No line end is partly in one token and partly in the next.
line-begins : (end : LineEnd) (after : List ℕ) → blanks_len 0 after ≡ 0 → turn end true after ≡ turn end false after
line-begins end [] h = refl
line-begins end (c ∷ after) h = elim (byte c) [
  | inl e ↦ absurd (let k = rw e at h in omega (arith, k))
  | inr (inl e) ↦ absurd (let k = rw e at h in omega (arith, k))
  | inr (inr p) ↦ turn-plain end true c after p ∙ sym (turn-plain end false c after p)
]

either-begins : (end : LineEnd) (cr : Bool) (after : List ℕ) → (cr ≡ false) ⊎ (blanks_len 0 after ≡ 0)
    → turn end cr after ≡ turn end false after
either-begins end cr after (inl e) = ap (λ b. turn end b after) e
either-begins end true after (inr h) = line-begins end after h
either-begins end false after (inr h) = refl

pub turned-before : (end : LineEnd) (kind : TokenKind) (text after : List ℕ) → Stands kind text after
    → turn end false (text ++ after) ≡ turn end false text ++ turn end false after
turned-before end kind text after s =
    let ends = (turned end kind text s.token).ends in
    turn-append end false text after
    ∙ ap (λ l. turn end false text ++ l) (either-begins end (ends_cr false text) after (elim ends [
      | inl e ↦ inr (subst (λ k. goes_on k after ≡ 0) e (stops kind text after s))
      | inr e ↦ inl e
    ]))
