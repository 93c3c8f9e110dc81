-- Where not all of a text is read, the reports begin reports of all answers: the lexer alone has those of the rest.
use Rattle.std.proofs.Common.{◌≡◌, Bool, true, false, List, [], ◌∷◌, ◌++◌, Option, Some, None, refl, sym, subst}
use Rattle.lexical_grammar.specs.Answers.{Answer, gives, limit_at}
use Rattle.lexical_grammar.specs.declared.TokenKind.{TokenKind}
use Rattle.parser_rules.proofs.reports.AlongItems.{Onward, ahead, onward-all}
use Rattle.parser_rules.specs.Reports.{Reported, no_more, bad_text, token_limit, passed}
use Rattle.parser_rules.specs.State.{State, Report, bad_report, token_limit_report}

-- what the lexer alone would report of the answers
pub by-lexer : (taken : Bool) (xs : List Answer) → (reports : List Report) × Reported taken xs reports
by-lexer taken [] = ([], no_more)
by-lexer taken (limit_at index ∷ xs) = let l = by-lexer false xs in (token_limit_report index ∷ l.0, token_limit l.1)
by-lexer taken (gives item ∷ xs) = at (by-lexer taken xs) item.kind refl
  where
    at : (reports : List Report) × Reported taken xs reports → (found : Option TokenKind) → item.kind ≡ found
        → (reports : List Report) × Reported taken (gives item ∷ xs) reports
    at l None e = (bad_report item.text item.index ∷ l.0, bad_text e l.1)
    at l (Some k) e = (l.0, passed e l.1)

-- the reports so far begin reports of all answers
pub begins-reports : (items : List Answer) (state : State) → Onward true None items [] state
    → (later : List Report) × Reported true items (state.errors ++ later)
begins-reports items state onward =
    let l = by-lexer state.accepts (ahead state) in (
      l.0,
      subst (λ (rs : List Report). Reported true items (rs ++ l.0)) (sym onward.are)
          (onward-all None [] state onward l.0 l.1),
    )
