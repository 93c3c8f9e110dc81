use Rattle.std.proofs.Common.{take}
use Rattle.document_checks.proofs.violations.add_violations.Given as goal
use Rattle.document_checks.specs.Documents.{AreJudged, numbers_of}
use Rattle.document_checks.specs.Passing.{IsWithout, violation_sites}

-- the reports are those of the violations so far
abbrev pub invariant-loop-violation : goal.invariant-loop-violation
invariant-loop-violation l =
    AreJudged (IsWithout (numbers_of l.documents) (violation_sites (take l.violation-index l.violations))) l.fn.reports
    l.reports
