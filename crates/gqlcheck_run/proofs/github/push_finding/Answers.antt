use Rattle.std.proofs.Common.{◌≡◌, ◌∙◌, ℕ, List, [], ◌++◌, append-nil, length, min, sym}
use Rattle.marked_lines.proofs.Fronts.{begins_through}
use Rattle.marked_lines.specs.Places.{BeginsWith, column_number, line_number}
use Rattle.gqlcheck_run.proofs.github.push_finding.Goals as goal
use Rattle.gqlcheck_run.specs.GithubCommands.{command_at}
use Rattle.gqlcheck_run.specs.Numbers.{capped}

pub returns : goal.returns
returns g c =
    let start : ℕ = min c.args.finding.now.start (length c.args.source.now) in
    let front : List ℕ = c.args.lines.now.items ++ command_at c.args.finding.now.is_warning c.args.name.now
    (capped (line_number c.args.source.now start)) (capped (column_number c.args.source.now start)) in
    let placed : c.push_command_at.new.lines.items ≡ front =
    rw (c.line_of-line.ensures, c.column_of-column.ensures, c.part_between-part.ensures.start)
    at c.in_ok-push_command_at.ensures in
    let first : BeginsWith c.push_command_at.new.lines.items front =
    record { rest = []; is = placed ∙ sym (append-nil front) } in
    let second : BeginsWith c.push_message.new.lines.items front =
    begins_through _ _ front c.in_ok-push_message.ensures first in
    let third : BeginsWith c.push_other.new.lines.items front =
    begins_through _ _ front c.in_ok-push_other.ensures second in
    begins_through _ _ front (record { rest = _; is = c.in_ok-push.ensures.items }) third
