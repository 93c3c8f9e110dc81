use Rattle.std.proofs.Common.{◌≡◌, ◌≤◌, length, take}
use Rattle.std.specs.List.{filter}
use Rattle.std.specs.Prelude.{nat_lt}
use Rattle.document_checks.proofs.documents.documents_before.Given as goal
use Rattle.document_checks.specs.Documents.{numbers_of}

-- those of the documents so far are counted
abbrev pub invariant-loop-document : goal.invariant-loop-document
invariant-loop-document l = record {
  below : l.count ≤ l.document-index;
  is :
      l.count
      ≡ length (filter (λ number. nat_lt number l.text) (numbers_of (take l.document-index l.documents)));
}
