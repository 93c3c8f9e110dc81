use Rattle.std.proofs.Common.{◌≡◌, ◌∙◌, length}
use Rattle.document_checks.proofs.ParsedTexts.{add_comments, add_document}
use Rattle.document_checks.proofs.documents.Parsed.add.Goals as goal
use Rattle.document_checks.specs.declared.documents.Document.{Document}

-- a text without a definition
pub returns-then-has_comments_alone : goal.returns-then-has_comments_alone
returns-then-has_comments_alone c = λ texts parsed.
    rw c.in_ok-push.ensures.items (add_comments c.args.checks.now.limits c.args.source.now c.of_nothing.result texts
    c.args.self.now.documents.items c.args.self.now.reports.items c.if-has_comments_alone.ensures
    c.of_nothing.ensures.passes c.of_nothing.ensures.findings parsed)

-- a document
pub returns : goal.returns
returns c = λ texts parsed.
    let reports = c.args.self.now.reports.items in
    let document : Document = record { text = c.len-text.result; tree = c.in_ok-tree.tree } in
    let at : document.text ≡ length reports = c.len-text.ensures ∙ c.args.self.now.reports.ok.0 in
    let promise = rw (c.within.ensures.source, c.within.ensures.recursion_limit, c.within.ensures.token_limit)
    at c.in_ok-tree.ensures.promise in
    rw (c.in_ok-push-3.ensures.items, c.in_ok-push-2.ensures.items) (add_document c.args.checks.now.limits
    c.args.source.now document c.in_ok-report.report texts c.args.self.now.documents.items reports
    c.if-has_comments_alone.ensures at promise c.in_ok-report.ensures.passes c.in_ok-report.ensures.found
    c.in_ok-report.ensures.errors c.in_ok-report.ensures.nothing parsed)
