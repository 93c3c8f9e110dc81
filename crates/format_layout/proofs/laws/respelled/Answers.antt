use Rattle.format_layout.proofs.Respelling.{respelled}
use Rattle.format_layout.proofs.laws.respelled.Goals as goal

pub returns : goal.returns
returns c = respelled
