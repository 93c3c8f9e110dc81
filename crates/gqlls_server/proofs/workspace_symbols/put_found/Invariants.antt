use Rattle.json.specs.Json.{Json}
use Rattle.rpc_messages.specs.Answers.{IsBegun}
use Rattle.gqlls_server.proofs.workspace_symbols.put_found.Given as goal

abbrev pub invariant-loop-definition : goal.invariant-loop-definition
invariant-loop-definition l = (id : Json) → IsBegun id l.fn.answer → IsBegun id l.answer
