use Rattle.std.proofs.Common.{◌≡◌, map, take, string_bytes}
use Rattle.std.specs.Prelude.{◌||◌, is_some}
use Rattle.validation_names.specs.Names.{Name, entry_of}
use Rattle.editor_validation.proofs.other_documents.enter_all.Given as goal
use Rattle.editor_validation.specs.Mending.{has_name}

-- the names that were there, and those of this list so far
abbrev pub invariant-loop-name : goal.invariant-loop-name
invariant-loop-name l =
    (name : Name) → is_some (entry_of l.entries name)
    ≡ (is_some (entry_of l.initial.entries name) || has_name (map string_bytes (take l.name-index l.names)) name)
