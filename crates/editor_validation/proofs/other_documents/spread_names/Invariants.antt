use Rattle.std.proofs.Common.{◌≡◌, map, take}
use Rattle.std.specs.Prelude.{is_some}
use Rattle.validation_names.specs.Names.{Name, entry_of}
use Rattle.editor_validation.proofs.other_documents.spread_names.Given as goal
use Rattle.editor_validation.specs.Fragments.{as_fragments}
use Rattle.editor_validation.specs.Mending.{spread}

abbrev pub invariant-loop-names : goal.invariant-loop-names
invariant-loop-names l =
    (name : Name) → is_some (entry_of l.entries name)
    ≡ spread (map (λ f. as_fragments f.now) (take l.names-index l.documents)) name
