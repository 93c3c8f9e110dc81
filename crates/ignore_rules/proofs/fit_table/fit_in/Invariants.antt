use Rattle.std.proofs.Common.{◌+◌, ◌≤◌, [], drop, length, map}
use Rattle.ignore_rules.proofs.fit_table.fit_in.Given as goal
use Rattle.ignore_rules.specs.Fits.{as_sign, fits}
use Rattle.ignore_rules.specs.Tables.{IsWindow}

abbrev pub invariant-loop-index : goal.invariant-loop-index
invariant-loop-index g l =
    (l.window.end ≤ length l.path + 1)
    × (IsWindow (fits []) l.path (record { first = length l.path; end = length l.path + 1 }) l.initial.table
    → IsWindow (fits (map as_sign (drop l.index l.signs))) l.path l.window l.table)
