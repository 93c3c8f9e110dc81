use Rattle.std.proofs.Common.{◌≡◌, ℕ, List, map}
use Rattle.std.specs.BTreeSet.{contains_text}
use Rattle.std.specs.List.{list_any}
use Rattle.std.specs.Prelude.{◌||◌, string_bytes}
use Rattle.gqlls_server.proofs.documents.own_files.Given as goal
use Rattle.gqlls_server.specs.State.{is_of, is_own}

-- the files so far, and those of the documents that are left
abbrev pub invariant-loop-name : goal.invariant-loop-name
invariant-loop-name l =
    (name : List ℕ) → (contains_text l.own name || list_any (is_of name) (map string_bytes l.name-iterator))
    ≡ is_own l.uri l.documents name
