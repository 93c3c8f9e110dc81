use Rattle.document_grammar.proofs.Texts.{one-cut}
use Rattle.document_grammar.proofs.laws.one_cut.Goals as goal

pub returns : goal.returns
returns c = one-cut
