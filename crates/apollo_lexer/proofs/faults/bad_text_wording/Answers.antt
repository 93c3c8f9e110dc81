use Rattle.std.proofs.Common.{◌∙◌, ap}
use Rattle.lexical_grammar.specs.NumberStates.{live_len}
use Rattle.lexical_grammar.specs.declared.NumberState.TheVariants.{Begin}
use Rattle.apollo_lexer.proofs.BadStrings.{message-made}
use Rattle.apollo_lexer.proofs.Front.{number-boundary}
use Rattle.apollo_lexer.proofs.faults.bad_text_wording.Goals as goal

-- after the beginning of a number
pub range_from-next-requires : goal.range_from-next-requires
range_from-next-requires c = λ some.
    number-boundary c.args.text.now c.number_len-state.result.1 c.utf8.text
    (c.number_len-state.ensures.len ∙ ap (live_len Begin) c.as_bytes-bytes.ensures.value)

-- the message is the fault's, and quotes the character after the beginning of a number
pub returns : goal.returns
returns c =
    c.wording_of.ensures c.args.text.now c.range_from-next.result.now
    ∙ message-made c.args.text.now c.as_bytes-bytes.result.now c.range_from-next.result.now
    c.number_len-state.result.1 c.fault.result
    c.as_bytes-bytes.ensures.value c.number_len-state.ensures.len c.fault.ensures c.range_from-next.ensures.value
