use Rattle.std.proofs.Common.{◌<◌, length}
use Rattle.line_index.proofs.TextLemmas.{beyond}
use Rattle.line_index.proofs.first_lines.FirstLines.offset.Goals as goal
use Rattle.line_index.specs.Lines.{line_at}

pub returns-then-not-branch-clause-position : goal.returns-then-not-branch-clause-position
returns-then-not-branch-clause-position c =
    let far : line_at c.args.text.now (length c.args.text.now) < c.args.position.line =
    rw c.if-not-branch.true at c.in_ok-reach.ensures.reached in
    beyond c.args.encoding c.args.text.now c.args.position.line c.args.position.column c.utf8.text far
