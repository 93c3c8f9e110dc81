use Rattle.std.proofs.Common.{◌≡◌}
use Rattle.gqlcheck_run.proofs.json_lines.put_figures.Given as goal

abbrev pub invariant-loop-limit : goal.invariant-loop-limit
invariant-loop-limit g l = l.out.before ≡ l.fn.out.before
