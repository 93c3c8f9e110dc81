use Rattle.std.proofs.Common.{ap}
use Rattle.apollo_lexer.proofs.Quoting.{quoted}
use Rattle.apollo_lexer.proofs.error_data.ErrorData.quoting.Goals as goal
use Rattle.apollo_lexer.specs.Diagnostics.{of_text}

pub returns-clause-value : goal.returns-clause-value
returns-clause-value g c =
    let q = quoted _ _ _ _ _ _ _ _ _ c.len-start.result c.len-end.result c.new-message.ensures
    c.in_ok-try_push_str.ensures.ok
    c.in_ok-try_push_str-2.ensures.ok c.in_ok-try_push_str-3.ensures.ok c.in_ok-try_push_str-4.ensures.ok
    c.len-start.ensures.value
    c.len-end.ensures.value c.utf8.text c.utf8.closing in
    record { message = q.message; subject = ap of_text q.text; quoting = q.is_part }
