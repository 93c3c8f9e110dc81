use Rattle.format_layout.proofs.Sentences.{few-items, formatted}
use Rattle.format_layout.proofs.writer.format_document.Goals as goal

pub format_text-requires : goal.format_text-requires
format_text-requires g c = few-items c.args.source.now c.utf8.source c.requires

pub returns-clause-formatted : goal.returns-clause-formatted
returns-clause-formatted g c = formatted c.args.source.now _ c.utf8.source c.in_ok-text.ensures.same
