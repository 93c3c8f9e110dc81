use Rattle.std.specs.Prelude.{string_bytes}
use Rattle.marked_lines.specs.Places.{BeginsWith}
use Rattle.gqlcheck_run.proofs.report.push_figures.Given as goal

abbrev pub invariant-loop-index : goal.invariant-loop-index
invariant-loop-index g l = BeginsWith (string_bytes l.text) (string_bytes l.fn.text)
