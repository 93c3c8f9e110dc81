-- Why a text is refused, in words.
use Rattle.std.proofs.Common.{◌≡◌, ◌≢◌, ℕ, List, [], ◌∷◌, map, take, refl, sym, ap, ◌∙◌, arith, inl, inr}
use Rattle.apollo_parser.proofs.OneParse.{one-parse}
use Rattle.apollo_parser.specs.Diagnostics.{Diagnostic}
use Rattle.apollo_parser.specs.Parsed.{Parsed}
use Rattle.apollo_parser.specs.Promise.{Promise}
use Rattle.apollo_parser.specs.declared.Limits.{Limits}
use Rattle.marked_lines.specs.Places.{BeginsWith, OfFirst, place}
use Rattle.first_errors.proofs.Firsts.{first_shown}
use Rattle.first_errors.specs.Places.{shown_at}
use Rattle.formatter.specs.Finding.{AreFirstOf}
use Rattle.formatter.specs.Formatted as format
use Rattle.gqlfmt_run.specs.Complaints.{IsErrorReport, IsReason}
use Rattle.gqlfmt_run.specs.Formatting.{HasErrors, IsRefused, IsRefusedFor, most_shown}
use Rattle.gqlfmt_run.specs.declared.job.Bounds.{Bounds}
use Rattle.gqlfmt_run.specs.declared.revision.Refusal.{Refusal}
use Rattle.gqlfmt_run.specs.declared.revision.Refusal.TheVariants.{Errors, Outgrown, TooLong}

-- the first error that is shown is the first error of the parse, which is there
first-of : {E : Type 0} (of : E → Diagnostic) (limits : Limits) (name source report : List ℕ) (t : Parsed)
    (errors : List Diagnostic) (shown : List E)
    → Promise source limits.recursion limits.tokens t → t.errors ≡ errors → errors ≢ []
    → take 1 (map of shown) ≡ take 1 errors
    → OfFirst (λ error. BeginsWith report (place name source (shown_at source (of error)))) shown
    → IsErrorReport limits name source report
first-of of limits name source report t [] shown promise are some same begins = absurd (some refl)
first-of of limits name source report t (e ∷ es) [] promise are some same begins = absurd (let r : ⊥ = cc in r)
first-of of limits name source report t (e ∷ es) (x ∷ xs) promise are some same begins =
    let it : of x ≡ e = cc in record {
      error = of x;
      is_first = record {
        parsed = t;
        promise = promise;
        others = es;
        first = are
            ∙ ap (λ (d : Diagnostic). d ∷ es) (sym it);
      };
      begins = begins;
    }

pub error-report : {E : Type 0} (of : E → Diagnostic) (limits : Limits) (name source report : List ℕ)
    (shown : List E) (more : ℕ)
    → format.IsNoDocument source limits.recursion limits.tokens
    → AreFirstOf limits source most_shown (map of shown) more
    → OfFirst (λ error. BeginsWith report (place name source (shown_at source (of error)))) shown
    → IsErrorReport limits name source report
error-report of limits name source report shown more none are begins =
    let refused = none.1 in
    let same : are.parsed ≡ refused.parsed =
    one-parse are.parsed refused.parsed are.promise.by_rules refused.promise.by_rules in
    first-of of limits name source report are.parsed are.parsed.errors shown are.promise refl
    (λ empty. refused.some (refused.errors_of ∙ ap (λ (t : Parsed). t.errors) (sym same) ∙ empty))
    (first_shown _ are.parsed.errors most_shown (map of shown) more (omega arith) are.first) begins

-- so that is the reason
pub of-errors : {E : Type 0} (of : E → Diagnostic) (bounds : Bounds) (name source report : List ℕ)
    (shown : List E) (more : ℕ)
    → HasErrors bounds.limits source × AreFirstOf bounds.limits source most_shown (map of shown) more
    → OfFirst (λ error. BeginsWith report (place name source (shown_at source (of error)))) shown
    → IsReason bounds name source report
of-errors of bounds name source report shown more refused begins =
    inl (refused.0, error-report of bounds.limits name source report shown more refused.0.refused refused.1 begins)

-- a text with such a reason is left as it is
pub is-refused : {A : Type 0} (bounds : Bounds) (source : List ℕ) (refusal : Refusal A)
    → IsRefusedFor bounds source refusal → IsRefused bounds source
is-refused bounds source (Errors first) h = inl h.0
is-refused bounds source Outgrown h = inr (inl h)
is-refused bounds source TooLong h = inr (inr h)
