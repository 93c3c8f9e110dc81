use Rattle.json.specs.Json.{Json}
use Rattle.rpc_messages.specs.Answers.{IsBegun}
use Rattle.editor_answers.proofs.answers.symbols.put_symbols.Given as goal

abbrev pub invariant-loop-node : goal.invariant-loop-node
invariant-loop-node l = (id : Json) → IsBegun id l.fn.answer → IsBegun id l.answer
