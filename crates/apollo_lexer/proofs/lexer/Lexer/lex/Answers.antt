use Rattle.apollo_lexer.proofs.Lexing.{tokens-kept, errors-more, lex-error-made, errors-complete}
use Rattle.apollo_lexer.proofs.lexer.Lexer.lex.Goals as goal

-- an error is pushed
pub loop-item-preserved : goal.loop-item-preserved
loop-item-preserved g c =
    let e = c.in-Err.error in
    let told = c.in_ok-to_error-in-Err.ensures in
    let comes = rw c.in-Err.is at c.in-Some.ensures.steps.answers in
    record {
      tokens_so_far = tokens-kept _ e.is_limit e.text.now e.index _ _ _ comes c.loop-item.invariant.tokens_so_far;
      errors_so_far = rw c.in_ok-push-in-Err.ensures.items
          (errors-more _ _ c.in_ok-to_error-in-Err.field-0 e.is_limit e.text.now e.index _ _ comes
          (lex-error-made e.is_limit e.text.now e.index _ told.subject told.index told.message)
          c.loop-item.invariant.errors_so_far);
    }

-- nothing is left
pub returns-clause-errors : goal.returns-clause-errors
returns-clause-errors g c =
    let left = c.in-None.ensures.steps.answers.0 in
    errors-complete _ _ (rw left at c.loop-item.invariant.errors_so_far)
