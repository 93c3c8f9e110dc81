use Rattle.std.proofs.Common.{◌≡◌, [], take}
use Rattle.std.specs.Prelude.{string_bytes}
use Rattle.command_lines.specs.declared.gqlcheck.Format.TheVariants.{Text}
use Rattle.gqlcheck_run.proofs.report.findings_text.Given as goal
use Rattle.gqlcheck_run.specs.Rendering.{BeginsAtFirst}

abbrev pub invariant-loop-finding : goal.invariant-loop-finding
invariant-loop-finding g l =
    (l.finding-index ≡ 0 → string_bytes l.text ≡ [])
    × BeginsAtFirst Text l.name l.source (take l.finding-index l.report.findings.items) (string_bytes l.text)
