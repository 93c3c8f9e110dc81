use Rattle.c_parsing.proofs.Again.{parse-again}
use Rattle.c_parsing.proofs.laws.parse_again.Goals as goal

pub returns : goal.returns
returns c = parse-again
