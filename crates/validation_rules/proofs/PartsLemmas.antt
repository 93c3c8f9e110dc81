-- Definitions by their numbers.
use Rattle.std.proofs.Common.{◌≡◌, ℕ, ◌<◌, List, length, map, get_or, sym, ◌∙◌, ap}
use Rattle.std.proofs.Math.ListN.{get_or-map}
use Rattle.std.proofs.lemmas.List.{get_or_default, length-map}
use Rattle.validation_rules.specs.Parts.{as_parts, at, nothing}
use Rattle.validation_rules.specs.declared.definition_parts.DefinitionParts.{DefinitionParts}

-- the definition that an index reads
pub at_read : (parts : List DefinitionParts) (n : ℕ) (d : DefinitionParts) → n < length parts → d ≡ get_or parts n d
    → at (map as_parts parts) n ≡ as_parts d
at_read parts n d below is =
    get_or_default (map as_parts parts) n nothing (as_parts d) (rw length-map below) ∙ get_or-map as_parts parts n d
    ∙ ap as_parts (sym is)
