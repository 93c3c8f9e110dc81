use Rattle.std.proofs.Common.{refl}
use Rattle.cost_figures.proofs.FiguresOfParts.{enclosed}
use Rattle.cost_figures.proofs.figures.Figures.within.Goals as goal

pub returns : goal.returns
returns c xs e = enclosed c.args.self _ c.args.enclosing xs e c.lower.ensures refl c.at_root.ensures refl refl
    refl c.at_root-2.ensures
