use Rattle.json.specs.Json.{Json}
use Rattle.rpc_messages.specs.Answers.{IsBegun}
use Rattle.gqlls_server.proofs.workspace_symbols.put_all_found.Given as goal

abbrev pub invariant-loop-uri : goal.invariant-loop-uri
invariant-loop-uri l = (id : Json) → IsBegun id l.fn.answer → IsBegun id l.answer
