use Rattle.formatter.proofs.line_ends.keeps_document.Goals as goal
use Rattle.formatter.proofs.lines.Documents.{document, comments}
use Rattle.formatter.proofs.lines.Ends.{has-line-end}

pub returns-clause-document : goal.returns-clause-document
returns-clause-document c = document

pub returns-clause-comments : goal.returns-clause-comments
returns-clause-comments c = comments

pub returns-clause-ends : goal.returns-clause-ends
returns-clause-ends c = has-line-end
