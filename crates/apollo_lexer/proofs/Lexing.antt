-- The lists of tokens and errors that are made of a lexer's answers.
use Rattle.std.proofs.Common.{◌≡◌, ℕ, Bool, true, false, List, [], ◌∷◌, ◌++◌, refl, sym, subst}
use Rattle.std.specs.Prelude.{filter, not}
use Rattle.lexical_grammar.specs.Answers.{Answer, is_token}
use Rattle.apollo_lexer.specs.Answers.{error_answer}
use Rattle.apollo_lexer.specs.BadText.{bad_text_message}
use Rattle.apollo_lexer.specs.Diagnostics.{Diagnostic}
use Rattle.apollo_lexer.specs.LexErrors.{lex_subject, limit_message, IsLexMessage, IsLexError, AreLexErrors}

-- an error's answer is no token
error-no-token : (limit : Bool) (text : List ℕ) (index : ℕ) → is_token (error_answer limit text index) ≡ false
error-no-token true text index = refl
error-no-token false text index = refl

-- an error leaves the tokens as they are
pub tokens-kept : (tokens : List Answer) (limit : Bool) (text : List ℕ) (index : ℕ) (old rest all : List Answer)
    → old ≡ error_answer limit text index ∷ rest
    → tokens ++ filter is_token old ≡ all → tokens ++ filter is_token rest ≡ all
tokens-kept tokens limit text index old rest all e h =
    let kept = rw e at h in
    rw error-no-token at kept

-- the errors of the first of all answers, where the rest is left
abbrev pub ErrorsBefore : List Answer → List Diagnostic → List Answer → Type 0
ErrorsBefore all [] rest = all ≡ rest
ErrorsBefore [] (d ∷ ds) rest = ⊥
ErrorsBefore (answer ∷ all) (d ∷ ds) rest = IsLexError answer d × ErrorsBefore all ds rest

pub added-error : (all : List Answer) (ds : List Diagnostic) (answer : Answer) (d : Diagnostic) (rest : List Answer)
    → ErrorsBefore all ds (answer ∷ rest)
    → IsLexError answer d
    → ErrorsBefore all (ds ++ d ∷ []) rest
added-error all [] answer d rest h t = subst (λ l. ErrorsBefore l (d ∷ []) rest) (sym h) (t, refl)
added-error [] (e ∷ ds) answer d rest h t = absurd h
added-error (a ∷ all) (e ∷ ds) answer d rest h t = (h.0, added-error all ds answer d rest h.1 t)

pub errors-complete : (all : List Answer) (ds : List Diagnostic) → ErrorsBefore all ds [] → AreLexErrors all ds
errors-complete all [] h = subst (λ l. AreLexErrors l []) (sym h) tt
errors-complete [] (d ∷ ds) h = absurd h
errors-complete (a ∷ all) (d ∷ ds) h = (h.0, errors-complete all ds h.1)

-- an error more
pub errors-more : (all : List Answer) (ds : List Diagnostic) (d : Diagnostic) (limit : Bool) (text : List ℕ) (index : ℕ)
    (old rest : List Answer)
    → old ≡ error_answer limit text index ∷ rest → IsLexError (error_answer limit text index) d
    → ErrorsBefore all ds (filter (λ a. not (is_token a)) old)
    → ErrorsBefore all (ds ++ d ∷ []) (filter (λ a. not (is_token a)) rest)
errors-more all ds d limit text index old rest e t h =
    let kept = rw e at h in
    added-error all ds (error_answer limit text index) d (filter (λ a. not (is_token a)) rest)
    (rw error-no-token at kept) t

-- the error that is made from an answer is that answer's
pub lex-error-made : (limit : Bool) (text : List ℕ) (index : ℕ) (d : Diagnostic)
    → d.subject ≡ lex_subject limit text → d.index ≡ index
    → IsLexMessage limit text d.message
    → IsLexError (error_answer limit text index) d
lex-error-made true text index d s i m = λ j. record { message = m j; subject = s j; index = i j }
lex-error-made false text index d s i m = (s, i, m)

-- the messages
pub limit-message-is : (limit : Bool) (text message : List ℕ) → limit ≡ true → message ≡ limit_message
    → IsLexMessage limit text message
limit-message-is true text message is m = m
limit-message-is false text message is m = absurd (cc)

pub fault-message-is : (limit : Bool) (text message : List ℕ) → limit ≡ false → message ≡ bad_text_message text
    → IsLexMessage limit text message
fault-message-is true text message is m = absurd (cc)
fault-message-is false text message is m = m
