use Rattle.gqlls_server.proofs.Layouts.{range_formatting}
use Rattle.gqlls_server.proofs.format_answers.answer_range.Goals as goal

pub returns-clause-formats : goal.returns-clause-formats
returns-clause-formats c =
    range_formatting _ _ _ _ _ _ _ c.in_ok-positions.ensures.encoding c.in_ok-positions.ensures.text
    c.in_ok-layout.ensures c.in_ok-body.ensures.edits
