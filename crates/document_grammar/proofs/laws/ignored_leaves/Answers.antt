use Rattle.document_grammar.proofs.Built.{Yield-bare}
use Rattle.document_grammar.proofs.Nested.{nest-bare}
use Rattle.document_grammar.proofs.laws.ignored_leaves.Goals as goal

pub returns-clause-tokens : goal.returns-clause-tokens
returns-clause-tokens c = Yield-bare

pub returns-clause-nesting : goal.returns-clause-nesting
returns-clause-nesting c = nest-bare
