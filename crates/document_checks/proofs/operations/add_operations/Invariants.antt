use Rattle.std.proofs.Common.{map, take}
use Rattle.cost_limits.specs.Measures.{as_measure}
use Rattle.document_checks.proofs.operations.add_operations.Given as goal
use Rattle.document_checks.specs.Documents.{AreJudged, numbers_of}
use Rattle.document_checks.specs.Passing.{HasWithin}

-- the reports are those of the operations so far
abbrev pub invariant-loop-measured : goal.invariant-loop-measured
invariant-loop-measured l =
    AreJudged (HasWithin (numbers_of l.documents) l.checks.most (map as_measure (take l.measured-index l.operations)))
    l.fn.reports l.reports
