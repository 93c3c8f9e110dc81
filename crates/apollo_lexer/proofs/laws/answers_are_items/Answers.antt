use Rattle.apollo_lexer.proofs.Law.{answers-are-items}
use Rattle.apollo_lexer.proofs.laws.answers_are_items.Goals as goal

pub returns : goal.returns
returns c = answers-are-items c.args.lexer.now
