use Rattle.cost_figures.proofs.FiguresOfParts.{plus}
use Rattle.cost_figures.proofs.figures.Figures.plus.Goals as goal

pub returns : goal.returns
returns c xs ys e h =
    plus c.args.self c.args.next _ xs ys e h c.max.ensures c.saturating_add.ensures c.saturating_add-2.ensures
    c.saturating_add-3.ensures
    c.saturating_add-4.ensures c.saturating_add-5.ensures c.saturating_add-6.ensures
