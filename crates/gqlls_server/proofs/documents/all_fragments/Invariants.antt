use Rattle.std.proofs.Common.{◌≡◌, ◌++◌, map}
use Rattle.std.specs.BTreeMap.{values}
use Rattle.editor_validation.specs.Fragments.{as_fragments}
use Rattle.gqlls_server.proofs.documents.all_fragments.Given as goal
use Rattle.gqlls_server.specs.State.{names_of}

-- the names so far, and those of the documents that are left
abbrev pub invariant-loop-document : goal.invariant-loop-document
invariant-loop-document l =
    map (λ f. as_fragments f.now) l.found.items ++ map names_of l.document-iterator ≡ map names_of (values l.documents)
