use Rattle.std.proofs.Common.{refl}
use Rattle.document_checks.proofs.Warnings.{some_more, warning_added}
use Rattle.document_checks.proofs.report.Report.warn.Goals as goal

pub returns-clause-found : goal.returns-clause-found
returns-clause-found c =
    warning_added c.args.self.now _ c.args.warning c.in_ok-push.ensures.items refl c.requires

pub returns-clause-some : goal.returns-clause-some
returns-clause-some c =
    some_more c.args.self.now.findings.items _ c.args.warning c.in_ok-push.ensures.items
