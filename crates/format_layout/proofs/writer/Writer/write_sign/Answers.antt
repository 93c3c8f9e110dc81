use Rattle.std.proofs.Common.{refl}
use Rattle.format_layout.proofs.Adding.{adds-after, adds-token}
use Rattle.format_layout.proofs.Choosing.{then-keeps}
use Rattle.format_layout.proofs.writer.Writer.write_sign.Goals as goal
use Rattle.format_layout.specs.Chosen.{pipe_word}

pub returns-clause-adds : goal.returns-clause-adds
returns-clause-adds g c =
    then-keeps _ _ _ _ _ _ _ _ _ pipe_word
    (adds-after _ _ _ _ _ _ _ _ _ pipe_word c.in_ok-write_gap.ensures.keeps
    (adds-token _ _ _ _ _ _ pipe_word refl c.in_ok-token.ensures.adds))
    c.in_ok-space.ensures.keeps
