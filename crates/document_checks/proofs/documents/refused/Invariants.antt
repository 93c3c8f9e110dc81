use Rattle.std.proofs.Common.{◌≡◌, map, take}
use Rattle.apollo_parser.specs.Errors.{error_of}
use Rattle.first_errors.specs.Places.{shown_at}
use Rattle.document_checks.proofs.documents.refused.Given as goal
use Rattle.document_checks.specs.Documents.{AreErrors}

-- the findings so far are errors, where the errors so far are shown
abbrev pub invariant-loop-error : goal.invariant-loop-error
invariant-loop-error l = record {
  starts : map (λ finding. finding.start) l.findings.items
      ≡ map (shown_at l.source) (map error_of (take l.error-index l.error-items));
  errors : AreErrors l.findings.items;
}
