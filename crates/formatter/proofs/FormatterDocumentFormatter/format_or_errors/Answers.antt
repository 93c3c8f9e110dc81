use Rattle.std.proofs.Common.{arith}
use Rattle.formatter.proofs.FormatterDocumentFormatter.format_or_errors.Goals as goal
use Rattle.formatter.proofs.Parses.{formatted-by, no-longer, sentence-of}

pub format_document-requires : goal.format_document-requires
format_document-requires g c =
    sentence-of _ c.args.limits.recursion c.args.limits.tokens (omega arith)
    (rw c.in-Ok.is at c.in_ok-plan.ensures.document)

pub returns-in_ok-text-in-Ok-clause-formatted : goal.returns-in_ok-text-in-Ok-clause-formatted
returns-in_ok-text-in-Ok-clause-formatted g c =
    formatted-by _ _ _ _ (rw c.in-Ok.is at c.in_ok-plan.ensures.document) c.in_ok-text-in-Ok.ensures.formatted

pub returns-in_ok-text-in-Ok-clause-longest : goal.returns-in_ok-text-in-Ok-clause-longest
returns-in_ok-text-in-Ok-clause-longest g c =
    no-longer _ _ _ _ _ (rw c.in-Ok.is at c.in_ok-plan.ensures.nesting) c.in_ok-text-in-Ok.ensures.longest
