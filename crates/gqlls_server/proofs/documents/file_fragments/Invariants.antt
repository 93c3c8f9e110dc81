use Rattle.std.proofs.Common.{◌≡◌, ◌++◌, map}
use Rattle.std.specs.BTreeSet.{contains_text}
use Rattle.std.specs.Prelude.{filter, not, string_bytes}
use Rattle.editor_validation.specs.Fragments.{as_fragments}
use Rattle.gqlls_server.proofs.documents.file_fragments.Given as goal
use Rattle.gqlls_server.specs.State.{entries_beside, names_of}

-- the names so far, and those of the files that are left
abbrev pub invariant-loop-name : goal.invariant-loop-name
invariant-loop-name l =
    map (λ f. as_fragments f.now) l.found.items
    ++ map (λ entry. names_of entry.1)
    (filter (λ entry. not (contains_text l.own (string_bytes entry.0))) l.name-iterator)
    ≡ map (λ entry. names_of entry.1) (entries_beside l.own l.files)
