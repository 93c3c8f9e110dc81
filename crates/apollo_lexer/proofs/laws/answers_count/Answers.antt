use Rattle.apollo_lexer.proofs.Law.{limited-length}
use Rattle.apollo_lexer.proofs.laws.answers_count.Goals as goal

pub returns : goal.returns
returns c = limited-length
