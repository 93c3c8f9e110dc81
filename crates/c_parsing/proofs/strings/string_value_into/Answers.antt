use Rattle.std.proofs.Common.{string_bytes}
use Rattle.c_parsing.proofs.Outcomes.{not-a-string, string-written}
use Rattle.c_parsing.proofs.strings.string_value_into.Goals as goal

pub returns-then-not-is_string : goal.returns-then-not-is_string
returns-then-not-is_string g c =
    not-a-string c.args.literal.now c.in-Ok.text.now c.args.value.now c.refused-then-not-is_string.result
    c.in-Ok.ensures.cases.0
    (c.is_string.ensures.no c.if-not-is_string.true) c.refused-then-not-is_string.ensures

pub returns-in-Ok-string_value : goal.returns-in-Ok-string_value
returns-in-Ok-string_value g c =
    string-written c.args.literal.now c.in-Ok.text.now
    (string_bytes c.in-Ok-string_value.found) c.as_str.result.now c.args.value.now c.written.new.buffer c.written.result
    c.in-Ok.ensures.cases.0 c.in-Ok-string_value.ensures c.as_str.ensures.value c.written.ensures.buffer
    c.written.ensures.count
