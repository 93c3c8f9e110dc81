use Rattle.std.proofs.Common.{sym, ◌∙◌}
use Rattle.gqlls_server.proofs.Numbers.{number_of_text}
use Rattle.gqlls_server.proofs.parameters.number_at.Goals as goal

pub returns-in-Some : goal.returns-in-Some
returns-in-Some c = sym c.in-Some.is ∙ number_of_text _ _ c.unsigned_at.ensures

pub returns-in-None : goal.returns-in-None
returns-in-None c = sym c.in-None.is ∙ number_of_text _ _ c.unsigned_at.ensures
