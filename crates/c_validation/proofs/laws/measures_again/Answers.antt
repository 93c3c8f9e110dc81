use Rattle.c_validation.proofs.Again.{measures-again}
use Rattle.c_validation.proofs.laws.measures_again.Goals as goal

pub returns : goal.returns
returns c = measures-again
