use Rattle.grammar_machine.proofs.SentenceTheorems.{no-early-fault}
use Rattle.grammar_machine.proofs.laws.no_early_fault.Goals as goal

pub returns : goal.returns
returns c = no-early-fault
