use Rattle.rpc_messages.proofs.Answered.{error_answers, error_text}
use Rattle.rpc_messages.proofs.message.refusal.Goals as goal

pub returns-clause-answers : goal.returns-clause-answers
returns-clause-answers c = error_answers _ _ _ _ (error_text _ _ _ _ c.in_ok-body.ensures)
