use Rattle.std.proofs.Common.{◌≡◌, ◌++◌, Ok}
use Rattle.std.specs.Prelude.{map, filter, not}
use Rattle.lexical_grammar.specs.Answers.{is_token}
use Rattle.apollo_lexer.proofs.Lexing.{ErrorsBefore}
use Rattle.apollo_lexer.proofs.lexer.Lexer.lex.Given as goal
use Rattle.apollo_lexer.specs.Answers.{answers_left, answer_of}

-- the tokens so far and those that are left are the tokens, and the same of the errors
abbrev pub invariant-loop-item : goal.invariant-loop-item
invariant-loop-item g l = record {
  tokens_so_far : map (λ token. answer_of (Ok token)) l.tokens.items ++ filter is_token (answers_left l.item-iterator)
      ≡ filter is_token (answers_left l.fn.self);
  errors_so_far : ErrorsBefore (filter (λ answer. not (is_token answer)) (answers_left l.fn.self)) l.errors.items
      (filter (λ answer. not (is_token answer)) (answers_left l.item-iterator));
}
