use Rattle.std.proofs.Common.{arith}
use Rattle.document_checks.proofs.operations.judge_figures.Goals as goal

pub bounds-reports-0 : goal.bounds-reports-0
bounds-reports-0 c = omega (arith, c.requires.inside 0)
