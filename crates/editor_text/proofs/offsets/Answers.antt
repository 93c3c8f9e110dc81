use Rattle.editor_text.proofs.EditLemmas.{are-offsets}
use Rattle.editor_text.proofs.offsets.Goals as goal

pub returns-clause-offsets : goal.returns-clause-offsets
returns-clause-offsets c =
    are-offsets c.args.encoding c.args.text.now c.args.range.now c.in_ok-start.start c.in_ok-end.end c.max.result
    c.utf8.text c.in_ok-start.ensures.boundary
    c.in_ok-end.ensures.boundary c.in_ok-start.ensures.position c.in_ok-end.ensures.position c.max.ensures
