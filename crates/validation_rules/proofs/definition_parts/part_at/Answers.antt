use Rattle.std.proofs.Common.{sym}
use Rattle.validation_rules.proofs.PartsLemmas.{at_read}
use Rattle.validation_rules.proofs.definition_parts.part_at.Goals as goal

pub returns : goal.returns
returns c = sym (at_read c.args.parts.now c.args.number c.index-parts-number.result c.requires c.index-parts-number.is)
