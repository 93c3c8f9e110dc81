use Rattle.std.proofs.Common.{take}
use Rattle.document_checks.proofs.violations.add_warnings.Given as goal
use Rattle.document_checks.specs.Documents.{AreTold, numbers_of}
use Rattle.document_checks.specs.Passing.{violation_sites}

-- the warnings so far are added
abbrev pub invariant-loop-warning : goal.invariant-loop-warning
invariant-loop-warning l =
    AreTold (numbers_of l.documents) (violation_sites (take l.warning-index l.violations)) l.fn.reports l.reports
