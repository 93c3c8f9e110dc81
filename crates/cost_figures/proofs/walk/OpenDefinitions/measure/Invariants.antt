use Rattle.std.proofs.Common.{◌≡◌, map}
use Rattle.cost_figures.proofs.walk.OpenDefinitions.measure.Given as goal
use Rattle.cost_figures.specs.Walks.{Sound, root, steps_left}

abbrev pub invariant-loop : goal.invariant-loop
invariant-loop g l = record { sound : Sound (map (λ v. v.items) l.definitions) l.self; begun : root l.self ≡ l.root }

abbrev pub decreases-loop : goal.decreases-loop
decreases-loop g l = steps_left (map (λ v. v.items) l.definitions) l.self
