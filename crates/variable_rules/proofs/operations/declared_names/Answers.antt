use Rattle.std.proofs.Common.{map, ap, ◌∙◌}
use Rattle.validation_names.specs.Mentions.{as_named}
use Rattle.validation_rules.specs.Parts.{Parts}
use Rattle.variable_rules.proofs.KnownLemmas.{known_alone}
use Rattle.variable_rules.proofs.operations.declared_names.Goals as goal

pub returns : goal.returns
returns c =
    let same = ap (map as_named) c.deref.ensures.value ∙ ap (λ (d : Parts). d.declared) c.part_at.ensures in
    known_alone c.new-known.result c.enter_names.new.known _ c.new-known.ensures.empty
    (rw same at c.in_ok-enter_names.ensures)
