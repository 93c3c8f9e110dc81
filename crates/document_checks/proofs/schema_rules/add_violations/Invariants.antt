use Rattle.std.proofs.Common.{List, ◌++◌, take}
use Rattle.validation_names.specs.Sites.{Located}
use Rattle.document_checks.proofs.schema_rules.add_violations.Given as goal
use Rattle.document_checks.specs.Documents.{AreJudged, numbers_of}
use Rattle.document_checks.specs.Passing.{IsWithout}
use Rattle.document_checks.specs.Schemas.{query_sites}
use Rattle.document_checks.specs.declared.report.Report.{Report}

-- the reports are those of the violations so far
abbrev pub invariant-loop-violation : goal.invariant-loop-violation
invariant-loop-violation l =
    (sites : List Located) (begun : List Report)
    → AreJudged (IsWithout (numbers_of l.documents) sites) begun l.fn.reports
    → AreJudged (IsWithout (numbers_of l.documents) (sites ++ query_sites (take l.violation-index l.violations)))
    begun l.reports
