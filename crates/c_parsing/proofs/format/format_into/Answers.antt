use Rattle.std.proofs.Common.{refl}
use Rattle.c_parsing.proofs.Outcomes.{no-room, not-a-document}
use Rattle.c_parsing.proofs.format.format_into.Goals as goal

pub returns-in-Ok-None : goal.returns-in-Ok-None
returns-in-Ok-None g c =
    not-a-document c.args.source.now c.in-Ok.text.now c.args.limits.recursion c.args.limits.tokens c.args.formatted.now
    c.refused-in-Ok-None.result
    c.in-Ok.ensures.cases.0 (c.in-Ok-None.ensures.refused c.in-Ok-None.field-0-is) c.refused-in-Ok-None.ensures

pub returns-in-Err-TooLong : goal.returns-in-Err-TooLong
returns-in-Err-TooLong g c =
    no-room c.args.source.now c.in-Ok.text.now c.args.limits.recursion c.args.limits.tokens _ c.args.formatted.now
    c.refused-in-Err-TooLong.result
    c.in-Ok.ensures.cases.0 refl (c.in-Err-TooLong.ensures.long c.in-Err-TooLong.field-0-is)
    c.refused-in-Err-TooLong.ensures
