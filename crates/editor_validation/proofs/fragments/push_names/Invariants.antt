use Rattle.std.proofs.Common.{◌≡◌, ◌++◌, map, take, string_bytes}
use Rattle.validation_names.specs.Mentions.{as_named}
use Rattle.editor_validation.proofs.fragments.push_names.Given as goal
use Rattle.editor_validation.specs.Fragments.{names_of}

abbrev pub invariant-loop-mention : goal.invariant-loop-mention
invariant-loop-mention l =
    map string_bytes l.names.items ≡ map string_bytes l.initial.names.items
    ++ names_of (map as_named (take l.mention-index l.mentions))
