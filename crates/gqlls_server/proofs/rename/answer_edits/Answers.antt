use Rattle.std.proofs.Common.{◌∷◌, ◌++◌, ◌∙◌, [], List, ap, map, refl, true}
use Rattle.std.specs.List.{flat_map}
use Rattle.std.specs.Prelude.{codes}
use Rattle.json.specs.Token.{Token, begin_object, end_object, key}
use Rattle.rpc_messages.specs.Pieces.{tokens_of}
use Rattle.rpc_messages.specs.declared.pieces.Piece.{Piece}
use Rattle.editor_answers.proofs.Added.{added_as}
use Rattle.gqlls_server.proofs.Edits.{result_written}
use Rattle.gqlls_server.proofs.rename.answer_edits.Goals as goal
use Rattle.gqlls_server.specs.Renaming.{workspace_edit}
use Rattle.gqlls_server.specs.State.{known_of, places_of}

pub returns-clause-edits : goal.returns-clause-edits
returns-clause-edits c =
    let places = places_of true c.args.occurrence.now in
    let name = c.args.name.now in
    let known = c.args.known.now in
    let front : List Token = begin_object ∷ key (codes "changes") ∷ begin_object ∷ [] in
    c.in_ok-body.ensures.member.result (workspace_edit places name (map known_of known))
    (ap (flat_map tokens_of) c.as_slice.ensures.value
    ∙ result_written places name known _ _ _
    (added_as _ _ _ front c.in_ok-extend_from_slice.ensures.items refl
    ∙ ap (λ (ps : List Piece). flat_map tokens_of ps ++ front) c.new-pieces.ensures.items)
    c.in_ok-push_all_edits.ensures
    (added_as _ _ _ (end_object ∷ end_object ∷ []) c.in_ok-extend_from_slice-2.ensures.items refl))
