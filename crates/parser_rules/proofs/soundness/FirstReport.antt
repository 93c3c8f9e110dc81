-- What is said of the first report: the machine is stuck there, or each tree that goes on nests deeper than the limit,
-- or an answer is no token.
use Rattle.std.proofs.Common.{◌≡◌, ℕ, ◌+◌, length, ◌<◌, false, List, ◌∷◌, ◌++◌, Some}
use Rattle.lexical_grammar.specs.Answers.{Answer, is_token}
use Rattle.document_grammar.specs.Derivation.{Sort}
use Rattle.document_grammar.specs.Tree.{Token, Tree}
use Rattle.grammar_machine.proofs.Depth.{nesting_all}
use Rattle.grammar_machine.proofs.MachineTheorems.{Parse}
use Rattle.grammar_machine.proofs.SentenceTheorems.{FaultIn, start_symbol}
use Rattle.grammar_machine.specs.Machine.{first, Frame, Reach}
use Rattle.parser_rules.proofs.reports.NoReport.{answers_tokens, current_tokens, report_of, Passed, Held, Now}
use Rattle.parser_rules.specs.State.{Lexeme, Report, fault_report, recursion_limit_report}
use Rattle.parser_rules.specs.declared.message.Message.{Message}

module _ (sort : Sort) (answers : List Answer) (lim : ℕ) (tokens : List Token) where
  -- the start symbol
  abbrev pub top : ℕ
  top = start_symbol sort tokens

  -- the machine comes here
  abbrev pub Viable : List Token → Type 0
  Viable rest = (fs : List Frame) × Reach top tokens fs rest

  -- the machine is stuck here, or the root ends and tokens are left
  abbrev pub Stuck : List Token → Type 0
  Stuck rest = FaultIn sort tokens rest × Viable rest

  -- each tree of the tokens read and the next one nests deeper than the limit
  pub record TooMany (rest : List Token) : Type 0 where
    pub before : List Token
    pub split : tokens ≡ before ++ rest
    pub comes : Viable rest
    pub deeper : (tree : Tree) (these_tokens : List Token) → Parse top tree (before ++ these_tokens)
        → first rest ≡ first these_tokens → lim < nesting_all tree

  abbrev pub left : Lexeme → List Answer → List Token
  left lexeme items = current_tokens (Some lexeme) ++ answers_tokens items

  -- the number of tokens before these
  abbrev pub TokensBefore : ℕ → List Token → Type 0
  TokensBefore m rest = m + length rest ≡ length tokens

  -- a report, and how many tokens were taken before it
  pub data RightReport : Report → ℕ → Type 0 where
    stuck_here : (said : Message) {lexeme : Lexeme} {items : List Answer} {m : ℕ} → Now (Some lexeme) items
        → Held answers (Some lexeme) items
        → Stuck (left lexeme items) → TokensBefore m (left lexeme items) → RightReport (fault_report said lexeme) m
    deep_here : {lexeme : Lexeme} {items : List Answer} {m : ℕ} → Now (Some lexeme) items
        → Held answers (Some lexeme) items → TooMany (left lexeme items)
        → TokensBefore m (left lexeme items) → RightReport (recursion_limit_report lexeme) m
    no_token : {answer : Answer} {items : List Answer} {m : ℕ} → Passed answers (answer ∷ items)
        → is_token answer ≡ false → Viable (answers_tokens items)
        → TokensBefore m (answers_tokens items) → RightReport (report_of answer) m
