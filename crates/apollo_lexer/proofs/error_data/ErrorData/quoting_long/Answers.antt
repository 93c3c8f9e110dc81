use Rattle.std.proofs.Common.{ap, arith}
use Rattle.apollo_lexer.proofs.Quoting.{quoted}
use Rattle.apollo_lexer.proofs.error_data.ErrorData.quoting_long.Goals as goal
use Rattle.apollo_lexer.specs.Diagnostics.{of_text}

pub returns : goal.returns
returns g c =
    let q = quoted _ _ _ _ _ _ _ _ _ c.len-start.result c.len-end.result c.new-message.ensures.bytes
    c.in_ok-push_str.ensures.bytes
    c.in_ok-push_str-2.ensures.bytes c.in_ok-push_str-3.ensures.bytes c.in_ok-push_str-4.ensures.bytes
    (omega (arith, c.len-start.ensures, c.push_str-2.new.self.bytes.ok.0))
    (omega (arith, c.len-end.ensures, c.push_str-3.new.self.bytes.ok.0))
    c.utf8.text c.utf8.closing in
    record { message = q.message; subject = ap of_text q.text; quoting = q.is_part }
