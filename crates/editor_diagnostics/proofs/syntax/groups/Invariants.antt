use Rattle.std.proofs.Common.{◌≡◌, ◌++◌, drop, map}
use Rattle.first_errors.specs.Groups.{groups}
use Rattle.editor_diagnostics.proofs.syntax.groups.Given as goal
use Rattle.editor_diagnostics.specs.Syntax.{as_group}

-- the groups so far, and those of the errors that are left
abbrev pub invariant-loop-start : goal.invariant-loop-start
invariant-loop-start l =
    map as_group l.found.items ++ groups (drop l.start-index l.starts) l.rest ≡ groups l.starts l.errors
