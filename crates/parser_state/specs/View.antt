-- What a parser shows of its tokens and errors.
use Rattle.std.specs.Prelude.{ℕ, Bool, true, false, Option, Some, None}
use Rattle.parser_rules.specs.State as state
use Rattle.parser_rules.specs.State.{Text, Lexeme, bad_report, token_limit_report, recursion_limit_report, fault_report}
use Rattle.apollo_lexer.specs.declared.token.Token.{Token}
use Rattle.parser_state.specs.declared.borrowed_error.BorrowedError.{BorrowedError}
use Rattle.parser_state.specs.declared.borrowed_error.BorrowedError.TheVariants.{Lexer, Fault, RecursionLimit}
use Rattle.parser_state.specs.declared.state.PendingToken.{PendingToken}

abbrev pub lexeme_of : Token → Lexeme
lexeme_of t = record { kind = t.kind; text = t.text.now; index = t.index }

abbrev pub current_of : Option Token → Option Lexeme
current_of None = None
current_of (Some t) = Some (lexeme_of t)

abbrev pub pending_of : PendingToken → state.PendingToken
pending_of t = record { kind = t.kind; text = t.text.now }

-- what the lexer finds wrong: the token limit, or bad text
abbrev pub lexer_report : Bool → Text → ℕ → state.Report
lexer_report true text index = token_limit_report index
lexer_report false text index = bad_report text index

abbrev pub report_of : BorrowedError → state.Report
report_of (Lexer e) = lexer_report e.is_limit e.text.now e.index
report_of (Fault m t) = fault_report m (lexeme_of t)
report_of (RecursionLimit t) = recursion_limit_report (lexeme_of t)
