use Rattle.document_grammar.proofs.KindNumbers.{one-kind}
use Rattle.document_grammar.proofs.laws.one_kind.Goals as goal

pub returns : goal.returns
returns c = one-kind
