use Rattle.editor_validation.proofs.SameDiagnostics.{same-diagnostics}
use Rattle.editor_validation.proofs.laws.same_diagnostics.Goals as goal

pub returns : goal.returns
returns c = same-diagnostics
