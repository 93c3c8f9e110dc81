-- What is found of a text that does not pass.
use Rattle.std.proofs.Common.{◌≡◌, ◌<◌, ◌≤◌, ℕ, List, [], ◌∷◌, length, map, take, ap, ◌∙◌, arith}
use Rattle.std.proofs.lemmas.List.{take-map}
use Rattle.apollo_lexer.specs.declared.limits.Limits.{Limits}
use Rattle.apollo_tree.specs.Order.{Place}
use Rattle.apollo_parser.proofs.OneParse.{one-parse}
use Rattle.apollo_parser.specs.Diagnostics.{Diagnostic}
use Rattle.apollo_parser.specs.Parsed.{Parsed}
use Rattle.apollo_parser.specs.Promise.{Promise}
use Rattle.first_errors.proofs.Firsts.{first_shown}
use Rattle.first_errors.specs.First.{IsFirst}
use Rattle.first_errors.specs.Places.{shown_at}
use Rattle.document_checks.specs.Findings.{AreFindings}
use Rattle.document_checks.specs.declared.report.Finding.{Finding}

-- Each of the errors that are shown is found where it is shown, so the first finding is where the first error is.
pub first_found : (source : List ℕ) (document : Place) (errors shown : List Diagnostic) (most more : ℕ)
    (starts : List ℕ) → 1 ≤ most
    → IsFirst document errors most shown more → starts ≡ map (shown_at source) shown
    → take 1 starts ≡ map (shown_at source) (take 1 errors)
first_found source document errors shown most more starts some is are =
    ap (take 1) are ∙ take-map (shown_at source) 1 shown
    ∙ ap (map (shown_at source)) (first_shown document errors most shown more some is)

-- what is found of a text with errors
pub of_errors : (limits : Limits) (source : List ℕ) (t : Parsed) (errors : List Diagnostic) (findings : List Finding)
    → Promise source limits.recursion limits.tokens t → errors ≡ t.errors → 0 < length errors
    → take 1 (map (λ (f : Finding). f.start) findings) ≡ map (shown_at source) (take 1 errors)
    → AreFindings limits source findings
of_errors limits source t [] findings promise are some first = absurd (omega (arith, some))
of_errors limits source t (e ∷ es) [] promise are some first = absurd (let r : ⊥ = cc in r)
of_errors limits source t (e ∷ es) (f ∷ fs) promise are some first = λ error is.
    let refused = is.first in
    let same : t ≡ refused.parsed = one-parse t refused.parsed promise.by_rules refused.promise.by_rules in
    let list : e ∷ es ≡ error ∷ refused.others = are ∙ ap (λ (u : Parsed). u.errors) same ∙ refused.first in
    let it : e ≡ error = cc in
    let at : f.start ≡ shown_at source e = cc in
    at ∙ ap (shown_at source) it
