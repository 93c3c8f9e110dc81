use Rattle.std.proofs.Common.{◌≡◌, ◌++◌, take}
use Rattle.std.specs.List.{flat_map}
use Rattle.json.specs.Json.{Json}
use Rattle.rpc_messages.specs.Answers.{IsBegun}
use Rattle.editor_text.proofs.edit_answer.put_edits.Given as goal
use Rattle.editor_text.specs.Answered.{edit_tokens}

abbrev pub invariant-loop-edit : goal.invariant-loop-edit
invariant-loop-edit l =
    (l.answer ≡ l.fn.answer
    ++ flat_map (edit_tokens l.positions.encoding l.positions.text.now) (take l.edit-index l.edits))
    × ((id : Json) → IsBegun id l.fn.answer → IsBegun id l.answer)
