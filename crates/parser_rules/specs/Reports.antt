-- What is reported of a text: along its items, in their order.
use Rattle.std.specs.Prelude.{◌≡◌, ℕ, Bool, true, false, ◌&&◌, is_some, List, [], ◌∷◌, Some, None}
use Rattle.lexical_grammar.specs.Answers.{Answer, gives, limit_at}
use Rattle.lexical_grammar.specs.Cut.{Item}
use Rattle.lexical_grammar.specs.declared.TokenKind.{TokenKind}
use Rattle.parser_rules.specs.Messages.{is_limit}
use Rattle.parser_rules.specs.State.{Report, bad_report, token_limit_report, recursion_limit_report, fault_report}
use Rattle.parser_rules.specs.State.{lexeme, ignored}
use Rattle.parser_rules.specs.declared.message.Message.{Message}

-- The reports of some answers, where the grammar's are still taken or no longer are.
pub data Reported : Bool → List Answer → List Report → Type 0 where
  no_more : {taken : Bool} → Reported taken [] []
  -- bad text has one report, with its text
  bad_text : {taken : Bool} {item : Item} {answers : List Answer} {reports : List Report} → item.kind ≡ None
      → Reported taken answers reports
      → Reported taken (gives item ∷ answers) (bad_report item.text item.index ∷ reports)
  -- the token limit has one, and none of the grammar's follows
  token_limit : {taken : Bool} {index : ℕ} {answers : List Answer} {reports : List Report}
      → Reported false answers reports
      → Reported taken (limit_at index ∷ answers) (token_limit_report index ∷ reports)
  -- the grammar's: at a significant token, with its text, or at the end
  fault : (message : Message) {token_kind : TokenKind} {item : Item} {answers : List Answer} {reports : List Report}
      → item.kind ≡ Some token_kind
      → ignored token_kind ≡ None → Reported true (gives item ∷ answers) reports
      → Reported true (gives item ∷ answers) (fault_report message (lexeme token_kind item) ∷ reports)
  -- the recursion limit, at a significant token or the end; none of the grammar's follows
  recursion_limit : {token_kind : TokenKind} {item : Item} {answers : List Answer} {reports : List Report}
      → item.kind ≡ Some token_kind
      → ignored token_kind ≡ None → Reported false (gives item ∷ answers) reports
      → Reported true (gives item ∷ answers) (recursion_limit_report (lexeme token_kind item) ∷ reports)
  -- a token, ignored or not, has no more
  passed : {taken : Bool} {token_kind : TokenKind} {item : Item} {answers : List Answer} {reports : List Report}
      → item.kind ≡ Some token_kind
      → Reported taken answers reports
      → Reported taken (gives item ∷ answers) reports

-- a report of the recursion limit; the token limit's has the lexer's words
abbrev pub is_recursion_limit : Report → Bool
is_recursion_limit report = is_limit report.found && is_some report.message
