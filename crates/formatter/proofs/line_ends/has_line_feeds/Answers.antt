use Rattle.formatter.proofs.line_ends.has_line_feeds.Goals as goal
use Rattle.formatter.proofs.lines.Ends.{no-cr-feeds}

pub returns : goal.returns
returns c = no-cr-feeds c.args.text.now c.as_bytes.result.now c.memchr.result c.is_none.result c.as_bytes.ensures.value
    c.memchr.ensures c.is_none.ensures
