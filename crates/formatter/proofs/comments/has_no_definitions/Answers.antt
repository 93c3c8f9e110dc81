use Rattle.formatter.proofs.Ignored.{decided}
use Rattle.formatter.proofs.comments.has_no_definitions.Goals as goal

pub returns : goal.returns
returns c = decided c.args.source.now c.utf8.source _ c.is_all_ignored.ensures.tokens c.is_all_ignored.ensures.none
    c.is_all_ignored.ensures.some
