use Rattle.std.proofs.Common.{refl}
use Rattle.document_checks.proofs.Warnings.{error_added}
use Rattle.document_checks.proofs.report.Report.add.Goals as goal

pub returns-clause-found : goal.returns-clause-found
returns-clause-found c =
    error_added c.args.self.now _ c.args.finding c.in_ok-push.ensures.items refl c.requires
