use Rattle.lexical_grammar.proofs.Offsets.{items-stand}
use Rattle.lexical_grammar.proofs.items_stand.Goals as goal

pub returns : goal.returns
returns c = items-stand
