use Rattle.std.proofs.Common.{ap, map, ◌∙◌, List, ◌++◌, ◌∷◌, []}
use Rattle.std.specs.List.{flat_map}
use Rattle.json.specs.Token.{begin_array, end_array}
use Rattle.editor_text.proofs.Clients.{edits_of, result_tokens, written}
use Rattle.editor_text.proofs.edit_answer.answer_edits.Goals as goal
use Rattle.editor_text.specs.Answered.{edit_tokens, text_edit}
use Rattle.editor_text.specs.Edited.{edits_value}
use Rattle.editor_text.specs.declared.differences.Edit.{Edit}

pub returns-clause-edits : goal.returns-clause-edits
returns-clause-edits c =
    let e = c.args.positions.now.encoding in
    let text = c.args.positions.now.text.now in
    let edits = c.in_ok-edits.edits.items in
    let value = edits_value (map (text_edit e text) edits) in
    let begun = c.in_ok-answer.ensures.front in
    let tokens = written _ _ _ _ _ _ begun c.in_ok-answer-2.ensures.pieces c.in_ok-answer-3.ensures.tokens
    c.in_ok-answer-4.ensures.pieces in
    let same = ap (λ (x : List Edit). begin_array ∷ (flat_map (edit_tokens e text) x ++ end_array ∷ []))
    c.as_slice.ensures.value in (
      value,
      edits_of e text c.args.new.now edits c.in_ok-edits.ensures,
      (c.in_ok-body.ensures.member _ tokens).result value (same ∙ result_tokens e text edits),
    )
