use Rattle.std.proofs.Common.{◌≡◌, [], take}
use Rattle.command_lines.specs.declared.gqlcheck.Format.TheVariants.{Json}
use Rattle.gqlcheck_run.proofs.json_lines.finding_lines.Given as goal
use Rattle.gqlcheck_run.specs.Rendering.{BeginsAtFirst}

abbrev pub invariant-loop-finding : goal.invariant-loop-finding
invariant-loop-finding g l =
    (l.finding-index ≡ 0 → l.lines.items ≡ [])
    × BeginsAtFirst Json l.name l.source (take l.finding-index l.findings) l.lines.items
