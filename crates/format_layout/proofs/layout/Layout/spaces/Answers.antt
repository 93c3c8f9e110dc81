use Rattle.std.proofs.Common.{refl}
use Rattle.format_layout.proofs.Blanks.{front-of-spaces}
use Rattle.format_layout.proofs.layout.Layout.spaces.Goals as goal

pub blanks-requires-in-Some : goal.blanks-requires-in-Some
blanks-requires-in-Some g c = front-of-spaces _ _ _ c.in-Some.ensures.cases.0 refl
