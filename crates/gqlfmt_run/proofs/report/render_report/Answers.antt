use Rattle.std.proofs.Common.{◌≡◌, ◌∙◌, ◌<◌, ◌++◌, ap, arith, get_or, length, subst}
use Rattle.std.specs.Prelude.{string_bytes}
use Rattle.apollo_parser.specs.Errors.{error_of}
use Rattle.apollo_parser.specs.declared.BorrowedError.{BorrowedError}
use Rattle.marked_lines.proofs.Fronts.{of_first_front}
use Rattle.marked_lines.specs.Places.{BeginsWith, place}
use Rattle.first_errors.specs.Places.{shown_at}
use Rattle.gqlfmt_run.proofs.report.render_report.Goals as goal

pub loop-error-preserved : goal.loop-error-preserved
loop-error-preserved g c =
    let source = c.args.source.now in
    let front = λ (e : BorrowedError). place c.args.name.now source (shown_at source (error_of e)) in
    let items = c.args.first.now.errors.items in
    let same : c.deref-error-items.result.now ≡ items = c.deref-error-items.ensures.value in
    let item = c.error-item.result in
    let i = c.loop-error.error-index in
    let old = string_bytes c.loop-error.report in
    let new = string_bytes c.push_error.new.report in
    let within : i < length items = omega (arith, c.loop-error-test.true, ap length same) in
    let is : item ≡ get_or items i item = c.error-item.is ∙ ap (λ es. get_or es i item) same in (
      λ none. absurd (omega (arith, none)),
      of_first_front front items i item old new within c.loop-error.invariant.0 c.loop-error.invariant.1
          (subst (λ (e : BorrowedError). BeginsWith new (old ++ front e)) is c.in_ok-push_error.ensures),
    )
