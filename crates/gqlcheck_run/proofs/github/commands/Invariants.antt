use Rattle.std.proofs.Common.{◌≡◌, [], take}
use Rattle.command_lines.specs.declared.gqlcheck.Format.TheVariants.{Github}
use Rattle.gqlcheck_run.proofs.github.commands.Given as goal
use Rattle.gqlcheck_run.specs.Rendering.{BeginsAtFirst}

abbrev pub invariant-loop-finding : goal.invariant-loop-finding
invariant-loop-finding g l =
    (l.finding-index ≡ 0 → l.lines.items ≡ [])
    × BeginsAtFirst Github l.name l.source (take l.finding-index l.report.findings.items) l.lines.items
