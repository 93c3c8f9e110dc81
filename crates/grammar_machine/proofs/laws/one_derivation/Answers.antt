use Rattle.grammar_machine.proofs.SentenceTheorems.{one-derivation}
use Rattle.grammar_machine.proofs.SentenceTheorems.{one-sentence}
use Rattle.grammar_machine.proofs.laws.one_derivation.Goals as goal

pub returns-clause-tokens : goal.returns-clause-tokens
returns-clause-tokens c = one-derivation

pub returns-clause-texts : goal.returns-clause-texts
returns-clause-texts c = one-sentence
