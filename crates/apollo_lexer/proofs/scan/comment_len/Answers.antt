use Rattle.std.proofs.Common.{sym}
use Rattle.apollo_lexer.proofs.Searches.{comment-ends, comment-whole}
use Rattle.apollo_lexer.proofs.scan.comment_len.Goals as goal

pub returns-in-Some-clause-value : goal.returns-in-Some-clause-value
returns-in-Some-clause-value c = sym (comment-ends c.args.bytes.now c.in-Some.i c.in-Some.ensures)

pub returns-in-None-clause-value : goal.returns-in-None-clause-value
returns-in-None-clause-value c = sym (comment-whole c.args.bytes.now c.in-None.ensures)
