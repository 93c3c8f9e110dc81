use Rattle.apollo_lexer.proofs.Law.{answers-fit}
use Rattle.apollo_lexer.proofs.laws.answers_fit.Goals as goal

pub returns : goal.returns
returns c = answers-fit c.args.lexer.now
