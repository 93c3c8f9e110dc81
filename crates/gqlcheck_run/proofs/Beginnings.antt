-- What is printed of a text begins with its first finding.
use Rattle.std.proofs.Common.{◌≡◌, ◌∙◌, ◌<◌, ◌≤◌, ◌+◌, ℕ, List, [], ◌∷◌, ◌++◌, length, take, get_or, sym, ap, subst}
use Rattle.std.proofs.Common.{append_assoc, append-nil, min, arith}
use Rattle.std.proofs.lemmas.List.{take_all}
use Rattle.json.specs.Json.{Json}
use Rattle.marked_lines.proofs.Fronts.{begins_through, of_first_front, of_first_kept}
use Rattle.marked_lines.specs.Places.{BeginsWith, OfFirst}
use Rattle.document_checks.specs.declared.report.Finding.{Finding}
use Rattle.command_lines.specs.declared.gqlcheck.Format.TheVariants.{Sarif}
use Rattle.gqlcheck_run.specs.Places.{BeginsWithLine, BeginsWithResult}
use Rattle.gqlcheck_run.specs.Rendering.{BeginsAtFirst}
use Rattle.gqlcheck_run.specs.SarifResults.{artifact_uri}

pub begins_itself : (text : List ℕ) → BeginsWith text text
begins_itself text = record { rest = []; is = sym (append-nil text) }

-- ---- what an output begins with stays where more is added

line_kept : (before : List ℕ) (value : Json) (old new : List ℕ) → BeginsWith new old → BeginsWithLine before value old
    → BeginsWithLine before value new
line_kept before value old new grown first = record {
  line = first.line;
  is = first.is;
  rest = first.rest ++ grown.rest;
  joined = grown.is ∙ ap (λ (t : List ℕ). t ++ grown.rest) first.joined
      ∙ append_assoc before (first.line ++ 10 ∷ first.rest) grown.rest
      ∙ ap (λ (t : List ℕ). before ++ t) (append_assoc first.line (10 ∷ first.rest) grown.rest);
}

pub result_kept : (uri source : List ℕ) (offset : ℕ) (old new : List ℕ) → BeginsWith new old
    → BeginsWithResult uri source offset old
    → BeginsWithResult uri source offset new
result_kept uri source offset old new grown first = (first.0, first.1, first.2, line_kept _ _ old new grown first.3)

-- ---- an output for findings

-- one finding more, whose text has a front of its own
pub front_more : (front : Finding → List ℕ) (findings items : List Finding) (i : ℕ) (item : Finding) (old new : List ℕ)
    → items ≡ findings
    → i < length items → item ≡ get_or items i item → (i ≡ 0 → old ≡ [])
    → OfFirst (λ f. BeginsWith old (front f)) (take i findings)
    → BeginsWith new (old ++ front item) → OfFirst (λ f. BeginsWith new (front f)) (take (i + 1) findings)
front_more front findings items i item old new same inside is none so_far added =
    let within : i < length findings = omega (arith, inside, ap length same) in
    let it : item ≡ get_or findings i item = is ∙ ap (λ (fs : List Finding). get_or fs i item) same in
    of_first_front front findings i item old new within none so_far
    (subst (λ (f : Finding). BeginsWith new (old ++ front f)) it added)

-- what comes after all of them leaves the first where it is
pub front_kept : (front : Finding → List ℕ) (findings items : List Finding) (i : ℕ) (old new : List ℕ)
    → items ≡ findings → length items ≤ i
    → OfFirst (λ f. BeginsWith old (front f)) (take i findings) → BeginsWith new old
    → OfFirst (λ f. BeginsWith new (front f)) findings
front_kept front findings items i old new same past so_far grown =
    let all : take i findings ≡ findings = take_all i findings (omega (arith, past, ap length same)) in
    of_first_kept (λ f output. BeginsWith output (front f)) findings old new
    (subst (λ (fs : List Finding). OfFirst (λ f. BeginsWith old (front f)) fs) all so_far)
    (λ f. begins_through new old (front f) grown)

-- the same of results in a file with a URI
pub results_kept : (name uri source : List ℕ) (findings items : List Finding) (old new : List ℕ)
    → uri ≡ artifact_uri name → items ≡ findings
    → OfFirst (λ f. BeginsWithResult uri source (min f.start (length source)) old) items → BeginsWith new old
    → BeginsAtFirst Sarif name source findings new
results_kept name uri source findings items old new spelled same so_far grown =
    subst (λ (fs : List Finding). BeginsAtFirst Sarif name source fs new) same
    (subst (λ (u : List ℕ). OfFirst (λ f. BeginsWithResult u source (min f.start (length source)) new) items) spelled
    (of_first_kept (λ f output. BeginsWithResult uri source (min f.start (length source)) output) items old new so_far
    (λ f. result_kept uri source (min f.start (length source)) old new grown)))
