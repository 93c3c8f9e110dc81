use Rattle.std.proofs.Common.{◌≡◌, drop}
use Rattle.command_lines.proofs.options.row_called.Given as goal
use Rattle.command_lines.specs.Options.{row_called}
use Rattle.command_lines.specs.Reading.{as_rows}

abbrev pub invariant-loop-row : goal.invariant-loop-row
invariant-loop-row l = row_called l.name (as_rows l.rows) ≡ row_called l.name (as_rows (drop l.row-index l.rows))
