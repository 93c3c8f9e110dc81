use Rattle.std.proofs.Common.{◌≡◌}
use Rattle.lexical_grammar.specs.Reads.{items_of}
use Rattle.apollo_lexer.specs.Answers.{answers_left}
use Rattle.formatter.proofs.Ignored.{are_ignored, are_ignored_answers}
use Rattle.formatter.proofs.comments.is_all_ignored.Given as goal

-- the tokens so far are ignored, so the others decide
abbrev pub invariant-loop-item : goal.invariant-loop-item
invariant-loop-item l = are_ignored_answers (answers_left l.item-iterator) ≡ are_ignored (items_of l.fn.source)
