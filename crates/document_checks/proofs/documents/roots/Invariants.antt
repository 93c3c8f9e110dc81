use Rattle.std.proofs.Common.{◌≡◌, map, take}
use Rattle.apollo_tree.specs.References.{node_place}
use Rattle.document_checks.proofs.documents.roots.Given as goal
use Rattle.document_checks.specs.Documents.{root_of}

abbrev pub invariant-loop-document : goal.invariant-loop-document
invariant-loop-document l = map node_place l.roots.items ≡ map root_of (take l.document-index l.documents)
