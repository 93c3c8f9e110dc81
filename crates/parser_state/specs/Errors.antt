-- The errors of a parser, and what it is for an error to say a report.
use Rattle.std.specs.Prelude.{◌≡◌, ℕ, Bool, true, false, Option, Some, None}
use Rattle.parser_rules.specs.Messages.{Text, Found, at_text, at_end, at_limit, message_text, recursion_limit_message}
use Rattle.parser_rules.specs.State.{Lexeme, Report, found_at}
use Rattle.parser_rules.specs.declared.message.Message.{Message}
use Rattle.apollo_lexer.specs.BadText.{bad_text_message}
use Rattle.apollo_lexer.specs.Diagnostics.{Diagnostic, Subject, of_text, of_end, of_limit}
use Rattle.apollo_lexer.specs.LexErrors.{limit_message}
use Rattle.parser_state.specs.Found.{found_of}
use Rattle.parser_state.specs.View.{lexeme_of}
use Rattle.parser_state.specs.declared.borrowed_error.BorrowedError.{BorrowedError}
use Rattle.parser_state.specs.declared.borrowed_error.BorrowedError.TheVariants.{Lexer, Fault, RecursionLimit}

-- ---- errors

abbrev pub subject_of : Found → Subject
subject_of (at_text text) = of_text text
subject_of at_end = of_end
subject_of at_limit = of_limit

-- what the lexer finds wrong: the token limit, or bad text
abbrev pub lexer_error : Bool → Text → ℕ → Diagnostic
lexer_error true text index = record { message = limit_message; subject = of_limit; index = index }
lexer_error false text index = record { message = bad_text_message text; subject = of_text text; index = index }

-- what the grammar finds wrong at a token
abbrev pub fault_error : Message → Lexeme → Diagnostic
fault_error m t = record { message = message_text m (found_at t); subject = subject_of (found_at t); index = t.index }

abbrev pub error_of : BorrowedError → Diagnostic
error_of (Lexer e) = lexer_error e.is_limit e.text.now e.index
error_of (Fault m t) = fault_error m (lexeme_of t)
error_of (RecursionLimit t) = record { message = recursion_limit_message; subject = of_limit; index = t.index }

-- ---- reports

-- the message is the report's; or the lexer's, for the token limit or for the bad text
abbrev pub IsWorded : Found → Option Text → Text → Type 0
IsWorded found (Some words) message = message ≡ words
IsWorded (at_text text) None message = message ≡ bad_text_message text
IsWorded at_end None message = ⊥
IsWorded at_limit None message = message ≡ limit_message

-- the error is about what the report is about, and has its words
pub record IsErrorOf (report : Report) (error : Diagnostic) : Type 0 where
  pub subject : found_of error.subject ≡ report.found
  pub index : error.index ≡ report.index
  pub message : IsWorded report.found report.message error.message
