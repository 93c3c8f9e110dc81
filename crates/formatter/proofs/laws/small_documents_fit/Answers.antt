use Rattle.formatter.proofs.Parses.{small-fit}
use Rattle.formatter.proofs.laws.small_documents_fit.Goals as goal

pub returns : goal.returns
returns c = small-fit
