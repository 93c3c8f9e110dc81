use Rattle.std.proofs.Common.{map, take}
use Rattle.cost_figures.proofs.walk.measure.Given as goal
use Rattle.cost_figures.specs.Outcome.{AreMeasured}
use Rattle.cost_figures.specs.Walks.{Idle}

abbrev pub invariant-loop-root : goal.invariant-loop-root
invariant-loop-root g l = record {
  idle : Idle (map (λ v. v.items) l.definitions) l.walk;
  measured : AreMeasured (map (λ v. v.items) l.definitions) (take l.root-index l.roots) l.figures.items;
}
