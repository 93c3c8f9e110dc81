use Rattle.apollo_lexer.proofs.Equality.{equal-same, same-equal}
use Rattle.apollo_lexer.proofs.laws.equal_errors_are_same.Goals as goal

pub returns : goal.returns
returns c = λ a b. (equal-same a b, same-equal a b)
