use Rattle.document_grammar.proofs.Texts.{sentence-starts, sentence-starts-within}
use Rattle.document_grammar.proofs.laws.starts.Goals as goal

pub returns-clause-any : goal.returns-clause-any
returns-clause-any c = sentence-starts

pub returns-clause-within : goal.returns-clause-within
returns-clause-within c = sentence-starts-within
