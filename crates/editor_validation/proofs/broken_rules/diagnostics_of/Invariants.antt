use Rattle.std.proofs.Common.{◌≡◌, map, take}
use Rattle.validation_rules.specs.Violations.{as_breach}
use Rattle.editor_diagnostics.specs.Diagnostics.{as_diagnosis}
use Rattle.editor_validation.proofs.broken_rules.diagnostics_of.Given as goal
use Rattle.editor_validation.specs.Diagnostics.{diagnostic_of}

abbrev pub invariant-loop-violation : goal.invariant-loop-violation
invariant-loop-violation l =
    map as_diagnosis l.found.items ≡ map diagnostic_of (map as_breach (take l.violation-index l.violations))
