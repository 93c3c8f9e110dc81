use Rattle.std.proofs.Common.{◌∙◌, ap}
use Rattle.lexical_grammar.specs.NumberStates.{live_len}
use Rattle.lexical_grammar.specs.declared.NumberState.TheVariants.{Begin}
use Rattle.apollo_lexer.proofs.Front.{number-boundary, point-boundary}
use Rattle.apollo_lexer.proofs.scan.bad_len.Goals as goal

-- after the beginning of a number
pub range_from-requires : goal.range_from-requires
range_from-requires c = λ some.
    number-boundary c.args.source.now c.number_len-n.result.1 c.utf8.source
    (c.number_len-n.ensures.len ∙ ap (live_len Begin) c.as_bytes-bytes.ensures.value)

-- after a `.`
pub range_from-requires-then-first-eq46 : goal.range_from-requires-then-first-eq46
range_from-requires-then-first-eq46 c = λ some.
    point-boundary c.args.source.now c.as_bytes-bytes.result.now c.in-Some.others.now c.in-Some.first.now
    c.as_bytes-bytes.ensures.value
    c.in-Some.ensures.cases.0 c.if-first-eq46.true c.utf8.source
