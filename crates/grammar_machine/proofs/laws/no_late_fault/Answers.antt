use Rattle.grammar_machine.proofs.Beginnings.{reached-begins-text}
use Rattle.grammar_machine.proofs.SentenceTheorems.{reached-starts}
use Rattle.grammar_machine.proofs.laws.no_late_fault.Goals as goal

pub returns-clause-tokens : goal.returns-clause-tokens
returns-clause-tokens c = reached-starts

pub returns-clause-texts : goal.returns-clause-texts
returns-clause-texts c = reached-begins-text
