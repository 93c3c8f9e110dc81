use Rattle.std.proofs.Common.{◌≡◌, ℕ, ◌<◌, false, length, map, take}
use Rattle.std.specs.List.{flat_map, sum_by}
use Rattle.directed_graph.specs.Marks.{AreUnmarked}
use Rattle.validation_rules.specs.Broken.{variables_of}
use Rattle.validation_rules.specs.Parts.{as_parts}
use Rattle.validation_rules.specs.Violations.{Adds}
use Rattle.variable_rules.proofs.operations.add_operations.Given as goal
use Rattle.variable_rules.specs.Steps.{capped, is_used_up_at, steps_of}

abbrev pub invariant-loop-number : goal.invariant-loop-number
invariant-loop-number l = record {
  as_many : length l.marks.items ≡ length l.graph;
  unmarked : AreUnmarked l.marks.items;
  adds : Adds (flat_map (variables_of (map as_parts l.parts)) (take l.number l.operations))
      l.initial.violations l.violations;
  taken : l.taken ≡ capped (sum_by (steps_of (map as_parts l.parts)) (take l.number l.operations));
  going_on : (k : ℕ) → k < l.number → is_used_up_at l.steps (map as_parts l.parts) l.operations k ≡ false;
}
