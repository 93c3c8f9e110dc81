use Rattle.lexical_grammar.proofs.Joined.{joined-cut, holds}
use Rattle.lexical_grammar.proofs.joined_tokens.Goals as goal

pub returns-clause-cut : goal.returns-clause-cut
returns-clause-cut c = joined-cut

pub returns-clause-holds : goal.returns-clause-holds
returns-clause-holds c = holds
