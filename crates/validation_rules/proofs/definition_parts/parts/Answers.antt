use Rattle.std.proofs.Common.{◌∙◌, List, [], ◌∷◌, ◌++◌, map, take, ap, sym}
use Rattle.std.proofs.lemmas.List.{map_more, map_push}
use Rattle.validation_names.specs.Definitions.{as_defined}
use Rattle.validation_names.specs.declared.executables.ExecutableDefinition.{ExecutableDefinition}
use Rattle.validation_rules.proofs.definition_parts.parts.Goals as goal
use Rattle.validation_rules.specs.Parts.{Parts, as_parts, parts_of}

pub loop-definition-preserved : goal.loop-definition-preserved
loop-definition-preserved c =
    let ds = c.args.definitions.now in
    let i = c.loop-definition.definition-index in
    let parts_at : ExecutableDefinition → Parts = λ d. parts_of (as_defined d) in
    ap (map as_parts) c.in_ok-push.ensures.items ∙ map_push as_parts c.loop-definition.parts.items c.in_ok-read.read
    ∙ ap (λ (ps : List Parts). ps ++ as_parts c.in_ok-read.read ∷ []) c.loop-definition.invariant
    ∙ ap (λ (p : Parts). map parts_at (take i ds) ++ p ∷ []) (c.in_ok-read.ensures ∙ ap parts_at c.definition-item.is)
    ∙ sym (map_more parts_at ds i c.definition-item.result c.loop-definition-test.true)
