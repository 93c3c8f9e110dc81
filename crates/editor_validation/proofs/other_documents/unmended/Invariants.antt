use Rattle.std.proofs.Common.{◌≡◌, map, not, take}
use Rattle.std.specs.List.{filter}
use Rattle.validation_rules.specs.Violations.{as_breach}
use Rattle.editor_validation.proofs.other_documents.unmended.Given as goal
use Rattle.editor_validation.specs.Fragments.{as_fragments}
use Rattle.editor_validation.specs.Mending.{is_mended}

abbrev pub invariant-loop-violation : goal.invariant-loop-violation
invariant-loop-violation l = map as_breach l.kept.items
    ≡ filter (λ b. not (is_mended (map (λ f. as_fragments f.now) l.others) b))
    (map as_breach (take l.violation-index l.violations))
