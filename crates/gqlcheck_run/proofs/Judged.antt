-- Texts with their reports.
use Rattle.std.proofs.Common.{◌≡◌, ◌∙◌, ◌<◌, ℕ, suc, List, [], ◌∷◌, length, get_or, map, refl, ap, sym}
use Rattle.std.proofs.Common.{arith, subst, true}
use Rattle.std.proofs.lemmas.List.{get_or_default}
use Rattle.std.proofs.lemmas.List.Elements.{All-cons, All-head, All-nil, All-tail}
use Rattle.std.proofs.lemmas.Slice.Zip.{get_or-zip}
use Rattle.std.specs.List.{zip}
use Rattle.std.specs.Prelude.{◌↔◌, All}
use Rattle.apollo_lexer.specs.declared.limits.Limits.{Limits}
use Rattle.document_checks.specs.Checking.{Asked}
use Rattle.document_checks.specs.Findings.{AreReports, IsReport}
use Rattle.document_checks.specs.Passing.{PassEach}
use Rattle.document_checks.specs.Warnings.{WarnEach}
use Rattle.document_checks.specs.declared.report.Report.{Report}
use Rattle.gqlcheck_run.specs.Inputs.{Input, as_input, text_of}
use Rattle.gqlcheck_run.specs.Judging.{Judged, as_judged, judged_by}
use Rattle.gqlcheck_run.specs.declared.inputs.Input as declared

abbrev report_passes : Report → Type 0
report_passes report = report.passes ≡ true

abbrev judged_passes : Judged → Type 0
judged_passes it = it.report.passes ≡ true

abbrev is_report : Limits → Judged → Type 0
is_report limits it = IsReport limits it.input.text it.report

module _ {A : Type 0} (limits : Limits) where
  -- there are as many reports as texts
  pub as_many : (inputs : List (declared.Input A)) (reports : List Report)
      → AreReports limits (map text_of (map as_input inputs)) reports → length reports ≡ length inputs
  as_many [] [] are = refl
  as_many [] (r ∷ rs) are = absurd are
  as_many (i ∷ is) [] are = absurd are
  as_many (i ∷ is) (r ∷ rs) are = ap suc (as_many is rs are.1)

  pub as_many_pairs : (inputs : List (declared.Input A)) (reports : List Report)
      → AreReports limits (map text_of (map as_input inputs)) reports → length (zip inputs reports) ≡ length inputs
  as_many_pairs [] reports are = refl
  as_many_pairs (i ∷ is) [] are = absurd are
  as_many_pairs (i ∷ is) (r ∷ rs) are = ap suc (as_many_pairs is rs are.1)

  pub each : (inputs : List (declared.Input A)) (reports : List Report)
      → AreReports limits (map text_of (map as_input inputs)) reports
      → map (λ (it : Judged). it.input) (judged_by inputs reports) ≡ map as_input inputs
  each [] reports are = refl
  each (i ∷ is) [] are = absurd are
  each (i ∷ is) (r ∷ rs) are = ap (λ (others : List Input). as_input i ∷ others) (each is rs are.1)

  pub reports_of : (inputs : List (declared.Input A)) (reports : List Report)
      → AreReports limits (map text_of (map as_input inputs)) reports
      → map (λ (it : Judged). it.report) (judged_by inputs reports) ≡ reports
  reports_of [] [] are = refl
  reports_of [] (r ∷ rs) are = absurd are
  reports_of (i ∷ is) [] are = absurd are
  reports_of (i ∷ is) (r ∷ rs) are = ap (λ (others : List Report). r ∷ others) (reports_of is rs are.1)

  pub all_pass : (inputs : List (declared.Input A)) (reports : List Report)
      → AreReports limits (map text_of (map as_input inputs)) reports → All report_passes reports
      → All judged_passes (judged_by inputs reports)
  all_pass [] reports are all = All-nil judged_passes
  all_pass (i ∷ is) [] are all = absurd are
  all_pass (i ∷ is) (r ∷ rs) are all =
      All-cons judged_passes (as_judged (i, r)) (judged_by is rs) (All-head report_passes r rs all)
      (all_pass is rs are.1 (All-tail report_passes r rs all))

  pub all_passed : (inputs : List (declared.Input A)) (reports : List Report)
      → AreReports limits (map text_of (map as_input inputs)) reports → All judged_passes (judged_by inputs reports)
      → All report_passes reports
  all_passed [] [] are all = All-nil report_passes
  all_passed [] (r ∷ rs) are all = absurd are
  all_passed (i ∷ is) [] are all = absurd are
  all_passed (i ∷ is) (r ∷ rs) are all =
      All-cons report_passes r rs (All-head judged_passes (as_judged (i, r)) (judged_by is rs) all)
      (all_passed is rs are.1 (All-tail judged_passes (as_judged (i, r)) (judged_by is rs) all))

  pub all_found : (inputs : List (declared.Input A)) (reports : List Report)
      → AreReports limits (map text_of (map as_input inputs)) reports
      → All (is_report limits) (judged_by inputs reports)
  all_found [] reports are = All-nil (is_report limits)
  all_found (i ∷ is) [] are = absurd are
  all_found (i ∷ is) (r ∷ rs) are =
      All-cons (is_report limits) (as_judged (i, r)) (judged_by is rs) are.0 (all_found is rs are.1)

  pub all_together : {P : Type 0} (inputs : List (declared.Input A)) (reports : List Report)
      → AreReports limits (map text_of (map as_input inputs)) reports
      → All (λ (r : Report). r.passes ≡ true) reports ↔ P
      → All (λ (it : Judged). it.report.passes ≡ true) (judged_by inputs reports) ↔ P
  all_together inputs reports are h = (
    λ all. h.0 (all_passed inputs reports are all),
    λ together. all_pass inputs reports are (h.1 together),
  )

-- which of them pass
pub which : {A : Type 0} (asked : Asked) (inputs : List (declared.Input A)) (reports : List Report)
    → AreReports asked.limits (map text_of (map as_input inputs)) reports
    → PassEach asked (map text_of (map as_input inputs)) reports
    → PassEach asked (map text_of (map as_input inputs)) (map (λ (it : Judged). it.report) (judged_by inputs reports))
which asked inputs reports are pass =
    subst (λ (rs : List Report). PassEach asked (map text_of (map as_input inputs)) rs)
    (sym (reports_of asked.limits inputs reports are)) pass

-- which of them have warnings
pub warned : {A : Type 0} (asked : Asked) (inputs : List (declared.Input A)) (reports : List Report)
    → AreReports asked.limits (map text_of (map as_input inputs)) reports
    → WarnEach asked (map text_of (map as_input inputs)) reports
    → WarnEach asked (map text_of (map as_input inputs)) (map (λ (it : Judged). it.report) (judged_by inputs reports))
warned asked inputs reports are warn =
    subst (λ (rs : List Report). WarnEach asked (map text_of (map as_input inputs)) rs)
    (sym (reports_of asked.limits inputs reports are)) warn

-- a text and its report, as the code has them
pub pair_at : {A B : Type 0} (xs : List A) (ys : List B) (i : ℕ) (x d : A) (y e : B)
    → i < length xs → length ys ≡ length xs → x ≡ get_or xs i d → y ≡ get_or ys i e
    → get_or (zip xs ys) i (x, y) ≡ (x, y)
pair_at {A = A} {B = B} xs ys i x d y e within as_long is_x is_y =
    let within' : i < length ys = omega (arith, within, as_long) in
    let same_x : get_or xs i x ≡ x = get_or_default xs i x d within ∙ sym is_x in
    let same_y : get_or ys i y ≡ y = get_or_default ys i y e within' ∙ sym is_y in
    get_or-zip xs ys i (x, y) within within'
    ∙ ap (λ (a : A). (a, get_or ys i y)) same_x ∙ ap (λ (b : B). (x, b)) same_y
