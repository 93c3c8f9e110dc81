use Rattle.std.proofs.Common.{◌≡◌, map, take}
use Rattle.editor_diagnostics.proofs.syntax.diagnostics_of.Given as goal
use Rattle.editor_diagnostics.specs.Diagnostics.{as_diagnosis}
use Rattle.editor_diagnostics.specs.Syntax.{as_group, syntax_diagnostic}

abbrev pub invariant-loop-group : goal.invariant-loop-group
invariant-loop-group l =
    map as_diagnosis l.found.items ≡ map syntax_diagnostic (map as_group (take l.group-index l.groups))
