-- Printed forms, from their pieces.
use Rattle.std.proofs.Common.{◌≡◌, ℕ, ◌+◌, Bool, true, false, List, [], ◌++◌, length, codes, true≢false, refl, sym, ap}
use Rattle.std.proofs.Common.{◌∙◌, append_assoc, subst}
use Rattle.std.specs.Fmt.{◌++?◌, debug_str}
use Rattle.std.specs.Prelude.{Option, Some, None, decimal, IsTrue}
use Rattle.apollo_parser.specs.Diagnostics.{Subject, of_text, of_end, of_limit, Diagnostic, subject_text}
use Rattle.apollo_parser.specs.Diagnostics.{is_end_subject, diagnostic_end}
use Rattle.apollo_parser.specs.LexErrors.{lex_subject}
use Rattle.apollo_parser.specs.Printed.{range_text, subject_shown, token_name, token_text}
use Rattle.apollo_parser.specs.declared.TokenKind.{TokenKind}
use Rattle.apollo_parser.specs.declared.TokenKind.TheVariants.{Eof}
use Rattle.gqlcst_run.proofs.Buffers.{puts_then}
use Rattle.gqlcst_run.specs.Buffering.{Buffered, Puts}
use Rattle.gqlcst_run.specs.Rendering.{IsForm, IsErrorForm}

pub end_shown : (subject : Subject) → is_end_subject subject ≡ true → codes "EOF" ≡ subject_shown subject
end_shown (of_text text) e = absurd (true≢false (sym e))
end_shown of_end e = refl
end_shown of_limit e = absurd (true≢false (sym e))

pub text_shown : (subject : Subject) → is_end_subject subject ≡ false → subject_text subject ≡ subject_shown subject
text_shown (of_text text) e = refl
text_shown of_end e = absurd (true≢false e)
text_shown of_limit e = refl

-- a name with a range, and the next range
pub head_put : (name shown first second : List ℕ) (start end : ℕ) (s t u : Buffered) → shown ≡ name
    → first ≡ decimal start → second ≡ decimal end
    → Puts s (shown ++ (codes "@" ++ (first ++ codes ":"))) t → Puts t second u → Puts s (range_text name start end) u
head_put name shown first second start end s t u names starts ends p q =
    let front = shown ++ (codes "@" ++ (first ++ codes ":")) in
    let inner = ap (λ (bs : List ℕ). shown ++ (codes "@" ++ bs)) (append_assoc first (codes ":") second) in
    let joined : front ++ second ≡ range_text name start end =
    append_assoc shown (codes "@" ++ (first ++ codes ":")) second
    ∙ (inner ∙ rw (names, starts, ends) refl) in
    subst (λ (bs : List ℕ). Puts s bs u) joined (puts_then s t u front second p q)

around : (stated : Option (List ℕ)) (front space back form : List ℕ) → IsForm stated form
    → IsForm (Some front ++? (Some space ++? (stated ++? (Some space ++? Some back))))
    (front ++ (space ++ (form ++ (space ++ back))))
around None front space back form is = tt
around (Some text) front space back form is = ap (λ (bs : List ℕ). front ++ (space ++ (bs ++ (space ++ back)))) is

-- what is put for an error
abbrev pub error_pieces : ℕ → ℕ → List ℕ → List ℕ → List ℕ
error_pieces start len quoted shown = codes "ERROR@" ++ ((decimal start ++ (codes ":" ++ decimal (start + len)))
    ++ (codes " " ++ (quoted ++ (codes " " ++ shown))))

-- is its form
pub error-form : (d : Diagnostic) (message quoted shown : List ℕ) (start len : ℕ) → message ≡ d.message
    → IsForm (debug_str message) quoted → start ≡ d.index
    → len ≡ length (subject_text d.subject)
    → shown ≡ subject_shown d.subject → IsErrorForm d (error_pieces start len quoted shown)
error-form d message quoted shown start len is form starts long shows =
    rw (starts, long, shows)
    (around (debug_str d.message) (range_text (codes "ERROR") d.index (diagnostic_end d)) (codes " ")
    (subject_shown d.subject) quoted
    (rw is at form))

after-range : (range space form : List ℕ) (stated : Option (List ℕ)) → IsForm stated form
    → IsForm (Some range ++? (Some space ++? stated)) (range ++ (space ++ form))
after-range range space form None is = tt
after-range range space form (Some text) is = ap (λ (bs : List ℕ). range ++ (space ++ bs)) is

with-text : (kind : TokenKind) (text quoted : List ℕ) (index : ℕ) → (kind ≡ Eof → ⊥) → IsForm (debug_str text) quoted
    → IsForm (token_text kind text index)
    (range_text (token_name kind) index (index + length text) ++ (codes " " ++ quoted))
with-text Eof text quoted index other is = absurd (other refl)
with-text kind text quoted index other is =
    after-range (range_text (token_name kind) index (index + length text)) (codes " ") quoted (debug_str text) is

-- the form of a token that is not the end
pub token-form : (kind : TokenKind) (text shown name quoted : List ℕ) (index start : ℕ) → (kind ≡ Eof → ⊥)
    → name ≡ token_name kind → shown ≡ text
    → start ≡ index → IsForm (debug_str shown) quoted
    → IsForm (token_text kind text index) (range_text name start (start + length shown) ++ (codes " " ++ quoted))
token-form kind text shown name quoted index start other named is range form =
    rw (named, is, range) (with-text kind text quoted index other (rw is at form))

-- the text of a lexer's error is what it is about, and is shown
pub lex-shown : (limit : Bool) (text : List ℕ) → (IsTrue limit → text ≡ [])
    → (text ≡ subject_text (lex_subject limit text)) × (text ≡ subject_shown (lex_subject limit text))
lex-shown true text none = (none refl, none refl)
lex-shown false text none = (refl, refl)
