use Rattle.c_validation.proofs.ValidTexts.{valid-texts}
use Rattle.c_validation.proofs.laws.valid_texts.Goals as goal

pub returns : goal.returns
returns c = valid-texts
