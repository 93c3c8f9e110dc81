use Rattle.std.proofs.Common.{◌≡◌, map, take}
use Rattle.std.specs.List.{flat_map, sum_by}
use Rattle.validation_rules.specs.Broken.{undefined_variables_in}
use Rattle.validation_rules.specs.Parts.{as_parts}
use Rattle.validation_rules.specs.Violations.{Adds}
use Rattle.variable_rules.proofs.operations.add_undefined.Given as goal
use Rattle.variable_rules.specs.Steps.{capped, use_steps_in}

abbrev pub invariant-loop-number : goal.invariant-loop-number
invariant-loop-number l = record {
  adds : Adds (flat_map (undefined_variables_in (map as_parts l.parts) l.operation) (take l.number-index l.numbers))
      l.initial.violations l.violations;
  steps : l.steps ≡ capped (sum_by (use_steps_in (map as_parts l.parts) l.operation) (take l.number-index l.numbers));
}
