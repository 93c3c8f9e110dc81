use Rattle.std.proofs.Common.{◌∙◌, ap, sym}
use Rattle.lexical_grammar.specs.Reads.{token_at}
use Rattle.apollo_lexer.proofs.Front.{front, front-boundary, token-len, bad-text-len}
use Rattle.apollo_lexer.proofs.scan.cut.Goals as goal

-- an item ends between characters
pub split_at-requires : goal.split_at-requires
split_at-requires c =
    front-boundary c.args.source.now c.in-Some.n c.requires c.utf8.source
    (token-len c.args.source.now c.in-Some.kind c.in-Some.n
    (sym (ap token_at c.as_bytes.ensures.value) ∙ sym c.token_at.ensures ∙ c.in-Some.is))

pub split_at-requires-in-None : goal.split_at-requires-in-None
split_at-requires-in-None c =
    front-boundary c.args.source.now c.bad_len.result c.requires c.utf8.source
    (bad-text-len c.args.source.now c.bad_len.result
    (sym (ap token_at c.as_bytes.ensures.value) ∙ sym c.token_at.ensures ∙ c.in-None.is) c.bad_len.ensures)

pub returns-in-Some-clause-some : goal.returns-in-Some-clause-some
returns-in-Some-clause-some c = (front c.args.source.now c.requires c.utf8.source).some

pub returns-in-None-clause-some : goal.returns-in-None-clause-some
returns-in-None-clause-some c = (front c.args.source.now c.requires c.utf8.source).some
