use Rattle.lexical_grammar.proofs.TheCut.{is-cut}
use Rattle.apollo_lexer.proofs.lexer.Lexer.new.Goals as goal

pub returns-clause-cut : goal.returns-clause-cut
returns-clause-cut g = is-cut g.args.input.now g.utf8.input
