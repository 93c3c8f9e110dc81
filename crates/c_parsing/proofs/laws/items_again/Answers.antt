use Rattle.c_parsing.proofs.Again.{items-again}
use Rattle.c_parsing.proofs.laws.items_again.Goals as goal

pub returns : goal.returns
returns c = items-again
