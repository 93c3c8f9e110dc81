use Rattle.apollo_parser.specs.LexerAnswers.{answers_left}
use Rattle.c_parsing.proofs.ItemRows.{Progress}
use Rattle.c_parsing.proofs.items.write_items.Given as goal

-- the rows of the answers that were given are written, and their errors are made
abbrev pub invariant-loop-item : goal.invariant-loop-item
invariant-loop-item g l =
    Progress (answers_left l.fn.lexer) (answers_left l.item-iterator) l.initial.rows l.rows l.count l.errors.items
