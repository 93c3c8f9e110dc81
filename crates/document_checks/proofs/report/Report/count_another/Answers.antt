use Rattle.std.proofs.Common.{refl}
use Rattle.document_checks.proofs.Warnings.{error_counted}
use Rattle.document_checks.proofs.report.Report.count_another.Goals as goal

pub returns-clause-found : goal.returns-clause-found
returns-clause-found c = error_counted c.args.self.now _ c.requires refl refl
