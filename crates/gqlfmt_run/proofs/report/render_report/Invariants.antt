use Rattle.std.proofs.Common.{◌≡◌, [], take}
use Rattle.std.specs.Prelude.{string_bytes}
use Rattle.apollo_parser.specs.Errors.{error_of}
use Rattle.marked_lines.specs.Places.{BeginsWith, OfFirst, place}
use Rattle.first_errors.specs.Places.{shown_at}
use Rattle.gqlfmt_run.proofs.report.render_report.Given as goal

-- the report begins with the first error
abbrev pub invariant-loop-error : goal.invariant-loop-error
invariant-loop-error g l =
    (l.error-index ≡ 0 → string_bytes l.report ≡ [])
    × OfFirst (λ error. BeginsWith (string_bytes l.report) (place l.name l.source (shown_at l.source (error_of error))))
    (take l.error-index l.first.errors.items)
