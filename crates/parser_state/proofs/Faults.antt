-- The errors of a parser.
use Rattle.std.proofs.Common.{◌≡◌, ℕ, Bool, true, false, List, [], ◌∷◌, ◌++◌, Some, map, refl, sym, ap, ◌∙◌}
use Rattle.std.proofs.lemmas.List.{append-nil}
use Rattle.std.specs.List.{AllZip}
use Rattle.std.specs.Prelude.{if◌then◌else◌, codes}
use Rattle.lexical_grammar.specs.Answers.{is_end}
use Rattle.parser_rules.specs.Messages.{Text, Found, at_text, at_end, at_limit, description, names_found, found_text}
use Rattle.parser_rules.specs.Messages.{message_text}
use Rattle.parser_rules.specs.State.{Lexeme, found_at}
use Rattle.parser_rules.specs.declared.message.Message.{Message}
use Rattle.apollo_lexer.specs.Diagnostics.{Diagnostic, Subject, of_text, of_end}
use Rattle.parser_state.specs.Errors.{IsWorded, IsErrorOf, error_of, fault_error, lexer_error, subject_of}
use Rattle.parser_state.specs.Found.{found_of}
use Rattle.parser_state.specs.View.{lexeme_of, lexer_report, report_of}
use Rattle.parser_state.specs.declared.borrowed_error.BorrowedError.{BorrowedError}
use Rattle.parser_state.specs.declared.borrowed_error.BorrowedError.TheVariants.{Lexer, Fault, RecursionLimit}

abbrev at-token : Text → Subject → ℕ → Diagnostic
at-token message subject index = record { message = message; subject = subject; index = index }

-- what is found at a token, and at the end
found-text : (x : Lexeme) → is_end x.kind ≡ false → found_at x ≡ at_text x.text
found-text x p = ap (λ (b : Bool). if b then at_end else at_text x.text) p

found-end : (x : Lexeme) → is_end x.kind ≡ true → found_at x ≡ at_end
found-end x p = ap (λ (b : Bool). if b then at_end else at_text x.text) p

-- what the messages say
pub plain-message : (m : Message) (found : Found) → names_found m ≡ false → description m ≡ message_text m found
plain-message m found n =
    sym (ap (λ (b : Bool). if b then description m ++ codes ", got " ++ found_text found else description m) n)

pub quoting-message : (m : Message) (text : Text) → names_found m ≡ true
    → description m ++ codes ", got " ++ text ++ [] ≡ message_text m (at_text text)
quoting-message m text n =
    append-nil (description m ++ codes ", got " ++ text)
    ∙ sym (ap (λ (b : Bool). if b then description m ++ codes ", got " ++ text else description m) n)

-- an error at a token, and one at the end
pub text-error : (m : Message) (x : Lexeme) (d : Diagnostic) (message text : Text) (index : ℕ)
    → is_end x.kind ≡ false → text ≡ x.text
    → message ≡ message_text m (at_text text)
    → index ≡ x.index → d ≡ record { message = message; subject = of_text text; index = index } → d ≡ fault_error m x
text-error m x d message text index p t w i e =
    e ∙ ap (λ (words : Text). at-token words (of_text text) index) w
    ∙ ap (at-token (message_text m (at_text text)) (of_text text)) i
    ∙ ap (λ (found : Found). at-token (message_text m found) (subject_of found) x.index)
    (ap at_text t ∙ sym (found-text x p))

pub end-error : (m : Message) (x : Lexeme) (d : Diagnostic) (message : Text) (index : ℕ) → is_end x.kind ≡ true
    → message ≡ message_text m at_end
    → index ≡ x.index → d ≡ record { message = message; subject = of_end; index = index } → d ≡ fault_error m x
end-error m x d message index p w i e =
    e ∙ ap (λ (words : Text). at-token words of_end index) w ∙ ap (at-token (message_text m at_end) of_end) i
    ∙ ap (λ (found : Found). at-token (message_text m found) (subject_of found) x.index) (sym (found-end x p))

-- ---- each error says its report

found-back : (found : Found) → found_of (subject_of found) ≡ found
found-back (at_text text) = refl
found-back at_end = refl
found-back at_limit = refl

worded : (found : Found) (words : Text) → IsWorded found (Some words) words
worded (at_text text) words = refl
worded at_end words = refl
worded at_limit words = refl

lexer-says : (limit : Bool) (text : Text) (index : ℕ)
    → IsErrorOf (lexer_report limit text index) (lexer_error limit text index)
lexer-says true text index = record { subject = refl; index = refl; message = refl }
lexer-says false text index = record { subject = refl; index = refl; message = refl }

says : (e : BorrowedError) → IsErrorOf (report_of e) (error_of e)
says (Lexer e) = lexer-says e.is_limit e.text.now e.index
says (Fault m t) = record {
  subject = found-back (found_at (lexeme_of t));
  index = refl;
  message = worded (found_at (lexeme_of t)) (message_text m (found_at (lexeme_of t)));
}
says (RecursionLimit t) = record { subject = refl; index = refl; message = refl }

pub all-say : (es : List BorrowedError) → AllZip IsErrorOf (map report_of es) (map error_of es)
all-say [] = tt
all-say (e ∷ es) = (says e, all-say es)
