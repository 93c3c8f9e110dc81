-- The paths of the command line.
use Rattle.std.proofs.Common.{◌≡◌, ℕ, ◌<◌, Bool, List, [], ◌∷◌, length, arith, Result, Bor}
use Rattle.std.specs.declared.io.Error.{Error}
use Rattle.file_access.specs.Listing.{Listing}
use Rattle.command_lines.specs.Words.{texts}
use Rattle.command_lines.specs.declared.gqlfmt.Mode.{Mode}
use Rattle.named_files.specs.Handling.{State, desk}
use Rattle.gqlfmt_run.specs.Folders.{HandlesPaths}
use Rattle.gqlfmt_run.specs.Program.{Formats}
use Rattle.gqlfmt_run.specs.declared.job.Bounds.{Bounds}

module _ {S : Type 0} (lists : S → List ℕ → Listing → S → Type 0) (omits : S → List ℕ → Result Bool Error → S → Type 0)
    (reads : S → List ℕ → Result (List ℕ) Error → S → Type 0) (replaces : S → List ℕ → List ℕ → Bool → S → Type 0)
    (mode : Mode) (bounds : Bounds) where
  -- a run over some paths
  pub formats-paths : (name : List ℕ) (paths : List (Bor (List ℕ))) (status : ℕ) (old new : State S) → 0 < length paths
      → HandlesPaths lists omits reads replaces mode bounds (texts paths) status (desk old) (desk new)
      → new.input ≡ old.input
      → Formats lists omits reads replaces mode bounds name (texts paths) status old new
  formats-paths name [] status old new some all input = absurd (omega (arith, some))
  formats-paths name (p ∷ paths) status old new some all input = (input, all)
