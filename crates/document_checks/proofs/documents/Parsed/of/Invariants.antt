use Rattle.std.proofs.Common.{take}
use Rattle.document_checks.proofs.documents.Parsed.of.Given as goal
use Rattle.document_checks.specs.Checking.{texts_of}
use Rattle.document_checks.specs.Documents.{AreParsed}

-- the texts so far are parsed
abbrev pub invariant-loop-source : goal.invariant-loop-source
invariant-loop-source l =
    AreParsed l.checks.limits (texts_of (take l.source-index l.sources)) l.parsed.documents.items l.parsed.reports.items
