use Rattle.format_layout.proofs.Adding.{adds-after}
use Rattle.format_layout.proofs.writer.Writer.write_token.Goals as goal

pub returns-clause-adds : goal.returns-clause-adds
returns-clause-adds g c = adds-after _ _ _ _ _ _ _ _ _ _ c.in_ok-write_gap.ensures.keeps c.in_ok-spell.ensures.adds
