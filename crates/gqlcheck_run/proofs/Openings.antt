-- How a run goes on once its output is opened.
use Rattle.std.proofs.Common.{◌≡◌, ℕ, zero, suc, List, refl, sym, subst}
use Rattle.std.specs.Prelude.{Bool, Result}
use Rattle.std.specs.declared.io.Error.{Error}
use Rattle.document_checks.specs.Checking.{Asked}
use Rattle.file_access.specs.Listing.{Listing}
use Rattle.named_files.specs.Handling.{State}
use Rattle.gqlcheck_run.specs.Program.{ChecksAndCloses, Continues, Paths}
use Rattle.gqlcheck_run.specs.declared.job.Printing.{Printing}

module _ {S : Type 0} (lists : S → List ℕ → Listing → S → Type 0) (omits : S → List ℕ → Result Bool Error → S → Type 0)
    (reads : S → List ℕ → Result (List ℕ) Error → S → Type 0)
    (asked : Asked) (printing : Printing) (paths : Paths) where
  pub stopped : (status : ℕ) (state : State S) → (status ≡ 0 → ⊥)
      → Continues lists omits reads asked printing paths status status state state
  stopped zero state broken = absurd (broken refl)
  stopped (suc n) state broken = (refl, refl)

  pub went_on : (printed status : ℕ) (old new : State S) → printed ≡ 0
      → ChecksAndCloses lists omits reads asked printing paths status old new
      → Continues lists omits reads asked printing paths printed status old new
  went_on printed status old new whole done =
      subst (λ (n : ℕ). Continues lists omits reads asked printing paths n status old new) (sym whole) done
