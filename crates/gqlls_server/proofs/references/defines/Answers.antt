use Rattle.std.proofs.Common.{ap, ◌∙◌, sym}
use Rattle.std.specs.Prelude.{is_some}
use Rattle.apollo_tree.specs.Order.{Place, range_at}
use Rattle.apollo_tree.specs.References.{node_place}
use Rattle.editor_answers.specs.Names.{definition_elsewhere}
use Rattle.editor_answers.specs.Parts.{bounds}
use Rattle.gqlls_server.proofs.Own.{some_of}
use Rattle.gqlls_server.proofs.references.defines.Goals as goal
use Rattle.gqlls_server.specs.Renaming.{root_of}
use Rattle.gqlls_server.specs.State.{known_of}

pub returns : goal.returns
returns c =
    c.is_some.ensures ∙ sym (some_of bounds c.definition_elsewhere.result)
    ∙ ap is_some c.definition_elsewhere.ensures ∙ some_of range_at _
    ∙ ap (λ (root : Place). is_some (definition_elsewhere root c.args.offset (node_place c.root-2.result)))
    c.root.ensures.place
    ∙ ap (λ (other : Place). is_some (definition_elsewhere (root_of (known_of c.args.asked.now)) c.args.offset other))
    c.root-2.ensures.place
