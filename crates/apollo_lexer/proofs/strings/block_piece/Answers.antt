use Rattle.std.proofs.Common.{◌∙◌, sym}
use Rattle.apollo_lexer.proofs.Searches.{block-piece-none, block-last, block-inner, block-other}
use Rattle.apollo_lexer.proofs.strings.block_piece.Goals as goal

pub returns-in-None : goal.returns-in-None
returns-in-None c = block-piece-none c.args.rest.now c.in-None.ensures

pub returns-then-starts_with : goal.returns-then-starts_with
returns-then-starts_with c =
    block-last c.args.rest.now c.in-Some.i c.in-Some.ensures (sym c.starts_with.ensures.value ∙ c.if-starts_with.true)

pub returns-then-starts_with-2 : goal.returns-then-starts_with-2
returns-then-starts_with-2 c = block-inner c.args.rest.now c.in-Some.i c.in-Some.ensures
    (sym c.starts_with-else-starts_with.ensures.value ∙ c.if-starts_with-2.true)

pub returns-else-starts_with-2 : goal.returns-else-starts_with-2
returns-else-starts_with-2 c =
    block-other c.args.rest.now c.in-Some.i c.in-Some.ensures (sym c.starts_with.ensures.value ∙ c.if-starts_with.false)
    (sym c.starts_with-else-starts_with.ensures.value ∙ c.if-starts_with-2.false)
