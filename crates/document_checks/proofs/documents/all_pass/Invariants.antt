use Rattle.std.proofs.Common.{take}
use Rattle.document_checks.proofs.documents.all_pass.Given as goal
use Rattle.document_checks.specs.Documents.{AllPass}

abbrev pub invariant-loop-report : goal.invariant-loop-report
invariant-loop-report l = AllPass (take l.report-index l.reports)
