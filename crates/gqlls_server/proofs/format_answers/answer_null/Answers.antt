use Rattle.std.proofs.Common.{refl}
use Rattle.json.specs.Json.{null}
use Rattle.gqlls_server.proofs.format_answers.answer_null.Goals as goal

pub returns-clause-null : goal.returns-clause-null
returns-clause-null c = c.in_ok-body.ensures.member.result null refl
