use Rattle.std.proofs.Common.{◌≡◌, ◌++◌, map}
use Rattle.std.specs.Prelude.{filter, string_bytes}
use Rattle.gqlls_server.proofs.documents.push_stored.Given as goal
use Rattle.gqlls_server.specs.Renaming.{AreParsed}
use Rattle.gqlls_server.specs.State.{entries_that, entry_of, is_stored, known_of}

-- the files so far, and those that are left
abbrev pub invariant-loop-name : goal.invariant-loop-name
invariant-loop-name l = record {
  all : map known_of l.found.items
      ++ map entry_of (filter (λ entry. is_stored l.own l.opened (string_bytes entry.0)) l.name-iterator)
      ≡ map known_of l.initial.found.items ++ map entry_of (entries_that (is_stored l.own l.opened) l.files);
  parsed : AreParsed (map known_of l.initial.found.items) → AreParsed (map known_of l.found.items);
}
