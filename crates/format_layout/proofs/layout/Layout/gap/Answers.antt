use Rattle.std.proofs.Common.{refl}
use Rattle.format_layout.proofs.Blanks.{front-of-spaces}
use Rattle.format_layout.proofs.layout.Layout.gap.Goals as goal

pub blanks-requires : goal.blanks-requires
blanks-requires g c = front-of-spaces _ _ _ c.in-Some.ensures.cases.0 refl
