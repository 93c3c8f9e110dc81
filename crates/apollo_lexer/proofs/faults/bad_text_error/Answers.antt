use Rattle.std.proofs.Common.{ap, ◌∙◌}
use Rattle.apollo_lexer.proofs.faults.bad_text_error.Goals as goal
use Rattle.apollo_lexer.specs.Diagnostics.{Diagnostic}

pub returns-clause-message : goal.returns-clause-message
returns-clause-message g c = ap (λ (d : Diagnostic). d.message) c.in_ok-error.ensures ∙ c.bad_text_wording.ensures
