use Rattle.apollo_parser.proofs.OneParse.{one-parse}
use Rattle.apollo_parser.proofs.laws.one_parse.Goals as goal

pub returns : goal.returns
returns c = λ source depth items a b p q. one-parse a b p.by_rules q.by_rules
