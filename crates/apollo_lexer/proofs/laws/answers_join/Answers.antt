use Rattle.lexical_grammar.proofs.Limited.{cut-text}
use Rattle.lexical_grammar.proofs.TheCut.{is-cut}
use Rattle.apollo_lexer.proofs.laws.answers_join.Goals as goal

pub returns : goal.returns
returns c = λ limit h. cut-text limit c.args.source.now _ (is-cut c.args.source.now c.utf8.source) h
