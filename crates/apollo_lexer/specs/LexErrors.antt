-- The errors that are made of a lexer's answers.
use Rattle.std.specs.Prelude.{◌≡◌, ℕ, Bool, true, false, List, [], ◌∷◌, ⊤, codes}
use Rattle.lexical_grammar.specs.Answers.{Answer, gives, limit_at}
use Rattle.apollo_lexer.specs.BadText.{bad_text_message}
use Rattle.apollo_lexer.specs.Diagnostics.{Subject, of_text, of_limit, Diagnostic}

abbrev pub limit_message : List ℕ
limit_message = codes "token limit reached, aborting lexing"

-- what the error of a lexer is about: its text, or that the limit is met
abbrev pub lex_subject : Bool → List ℕ → Subject
lex_subject true text = of_limit
lex_subject false text = of_text text

-- its message: the limit's, or the bad text's
abbrev pub IsLexMessage : Bool → List ℕ → List ℕ → Type 0
IsLexMessage true text message = message ≡ limit_message
IsLexMessage false text message = message ≡ bad_text_message text

-- the error keeps the answer's text and index, or that the limit is met, and has the message for it
abbrev pub IsLexError : Answer → Diagnostic → Type 0
IsLexError (limit_at index) d = d ≡ record { message = limit_message; subject = of_limit; index = index }
IsLexError (gives item) d =
    (d.subject ≡ of_text item.text) × (d.index ≡ item.index) × (d.message ≡ bad_text_message item.text)

-- the error of each answer, in order
abbrev pub AreLexErrors : List Answer → List Diagnostic → Type 0
AreLexErrors [] [] = ⊤
AreLexErrors (answer ∷ answers) (d ∷ ds) = IsLexError answer d × AreLexErrors answers ds
AreLexErrors _ _ = ⊥
