use Rattle.std.proofs.Common.{◌≡◌, ◌++◌, length}
use Rattle.std.specs.Prelude.{string_bytes}
use Rattle.apollo_cst_core.specs.LinesLeft.{lines_left}
use Rattle.formatter.proofs.line_ends.joined_lines.Given as goal
use Rattle.formatter.proofs.lines.Ends.{later_lines}
use Rattle.formatter.specs.LineEnds.{with_line_end}

-- the lines so far are written, and those that are left are to be
abbrev pub invariant-loop-line : goal.invariant-loop-line
invariant-loop-line g l = string_bytes l.other ++ later_lines l.end (lines_left l.lines) ≡ with_line_end l.end l.text

abbrev pub decreases-loop-line : goal.decreases-loop-line
decreases-loop-line g l = length (lines_left l.lines)
