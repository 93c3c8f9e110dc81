use Rattle.validation_rules.proofs.TextOrderLemmas as lemmas
use Rattle.validation_rules.proofs.laws.one_order.Goals as goal

pub returns : goal.returns
returns c = lemmas.one_order
