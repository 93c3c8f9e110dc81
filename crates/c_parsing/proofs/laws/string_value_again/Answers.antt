use Rattle.c_parsing.proofs.Again.{string-value-again}
use Rattle.c_parsing.proofs.laws.string_value_again.Goals as goal

pub returns : goal.returns
returns c = string-value-again
