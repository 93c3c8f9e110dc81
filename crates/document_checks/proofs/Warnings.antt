-- Reports that get one more finding.
use Rattle.std.proofs.Common.{◌≡◌, ◌<◌, Bool, true, false, List, [], ◌∷◌, ◌++◌, length, refl, sym, ap}
use Rattle.std.proofs.Common.{◌∙◌, subst, arith}
use Rattle.std.proofs.lemmas.List.Elements.{All-append, All-cons, All-nil}
use Rattle.std.specs.Prelude.{◌≢◌, vec_len}
use Rattle.document_checks.specs.Documents.{IsFounded, IsUnwarned}
use Rattle.document_checks.specs.Findings.{AreWarnings, BeginWithError}
use Rattle.document_checks.specs.declared.report.Finding.{Finding}
use Rattle.document_checks.specs.declared.report.Report.{Report}

pub not_both : (b : Bool) → b ≡ true → b ≡ false → ⊥
not_both b is not = let e : true ≡ false = sym is ∙ not in let r : ⊥ = cc in r

-- one more behind the others
begin_more : (fs : List Finding) (f : Finding) → BeginWithError fs → BeginWithError (fs ++ f ∷ [])
begin_more [] f begins = absurd begins
begin_more (g ∷ fs) f begins = begins

begin_first : (b : Bool) (fs : List Finding) (f : Finding) → f.is_warning ≡ false → (b ≡ true → fs ≡ [])
    → (b ≡ false → BeginWithError fs) → BeginWithError (fs ++ f ∷ [])
begin_first true fs f error nothing founded =
    subst (λ (gs : List Finding). BeginWithError (gs ++ f ∷ [])) (sym (nothing refl)) error
begin_first false fs f error nothing founded = begin_more fs f (founded refl)

pub error_added : (old new : Report) (f : Finding) → new.findings.items ≡ old.findings.items ++ f ∷ []
    → new.passes ≡ false → f.is_warning ≡ false → IsUnwarned old → IsUnwarned new
error_added old new f are fails error unwarned = record {
  nothing = λ passes. absurd (not_both new.passes passes fails);
  error = λ again.
      subst BeginWithError (sym are)
      (begin_first old.passes old.findings.items f error unwarned.nothing unwarned.error);
}

begin_some : (b : Bool) (fs : List Finding) → 0 < length fs → (b ≡ true → fs ≡ []) → (b ≡ false → BeginWithError fs)
    → BeginWithError fs
begin_some true fs some nothing founded = absurd (omega (arith, some, ap length (nothing refl)))
begin_some false fs some nothing founded = founded refl

pub error_counted : (old new : Report) → 0 < vec_len old.findings → new.findings.items ≡ old.findings.items
    → new.passes ≡ false → IsUnwarned old → IsUnwarned new
error_counted old new some are fails unwarned = record {
  nothing = λ passes. absurd (not_both new.passes passes fails);
  error = λ again.
      subst BeginWithError (sym are)
      (begin_some old.passes old.findings.items (omega (arith, some, old.findings.ok.0)) unwarned.nothing
      unwarned.error);
}

pub no_warnings : (fs : List Finding) → fs ≡ [] → AreWarnings fs
no_warnings fs none =
    subst (λ (gs : List Finding). AreWarnings gs) (sym none) (All-nil (λ (g : Finding). g.is_warning ≡ true))

-- before the warnings are added
pub founded_of : (r : Report) → IsUnwarned r → IsFounded r
founded_of r unwarned = record {
  error = unwarned.error;
  warnings = λ passes. no_warnings r.findings.items (unwarned.nothing passes);
}

warn_more : (fs : List Finding) (f : Finding) → f.is_warning ≡ true → AreWarnings fs → AreWarnings (fs ++ f ∷ [])
warn_more fs f warning are =
    let is = λ (g : Finding). g.is_warning ≡ true in
    All-append is fs (f ∷ []) are (All-cons is f [] warning (All-nil is))

pub warning_added : (old new : Report) (f : Finding) → new.findings.items ≡ old.findings.items ++ f ∷ []
    → new.passes ≡ old.passes → f.is_warning ≡ true → IsFounded old → IsFounded new
warning_added old new f are same warning founded = record {
  error = λ fails.
      subst BeginWithError (sym are) (begin_more old.findings.items f (founded.error (sym same ∙ fails)));
  warnings = λ passes.
      subst (λ (gs : List Finding). AreWarnings gs) (sym are)
      (warn_more old.findings.items f warning (founded.warnings (sym same ∙ passes)));
}

pub some_more : (fs gs : List Finding) (f : Finding) → gs ≡ fs ++ f ∷ [] → gs ≢ []
some_more [] gs f are none = let r : ⊥ = cc in r
some_more (g ∷ fs) gs f are none = let r : ⊥ = cc in r
