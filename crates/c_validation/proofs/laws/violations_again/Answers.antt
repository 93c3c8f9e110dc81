use Rattle.c_validation.proofs.ViolationsAgain.{violations-again}
use Rattle.c_validation.proofs.laws.violations_again.Goals as goal

pub returns : goal.returns
returns c = violations-again
