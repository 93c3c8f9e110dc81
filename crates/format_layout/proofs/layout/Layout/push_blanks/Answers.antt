use Rattle.format_layout.proofs.Blanks.{blanks-pushed}
use Rattle.format_layout.proofs.layout.Layout.push_blanks.Goals as goal

pub returns-clause-keeps : goal.returns-clause-keeps
returns-clause-keeps g c =
    blanks-pushed _ _ _ _ _ c.in_ok-push_str.ensures.bytes c.requires.some c.requires.blank c.requires.apart
