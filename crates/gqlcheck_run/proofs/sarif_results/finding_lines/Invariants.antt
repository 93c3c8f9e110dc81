use Rattle.std.proofs.Common.{◌≡◌, [], length, min, take}
use Rattle.marked_lines.specs.Places.{OfFirst}
use Rattle.gqlcheck_run.proofs.sarif_results.finding_lines.Given as goal
use Rattle.gqlcheck_run.specs.Places.{BeginsWithResult}

abbrev pub invariant-loop-finding : goal.invariant-loop-finding
invariant-loop-finding g l =
    (l.finding-index ≡ 0 → l.lines.items ≡ [])
    × OfFirst (λ finding. BeginsWithResult l.uri l.source (min finding.start (length l.source)) l.lines.items)
    (take l.finding-index l.findings)
