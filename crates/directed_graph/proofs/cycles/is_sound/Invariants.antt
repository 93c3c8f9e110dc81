use Rattle.std.proofs.Common.{ℕ, ◌<◌, slice_index}
use Rattle.directed_graph.proofs.cycles.is_sound.Given as goal
use Rattle.directed_graph.specs.Parts.{Follows}

abbrev pub invariant-loop-to : goal.invariant-loop-to
invariant-loop-to l = (k : ℕ) → k < l.to-index → Follows l.parts l.part (slice_index l.to-items k)
