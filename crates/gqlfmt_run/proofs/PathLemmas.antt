-- What becomes of a file, by the mode.
use Rattle.std.proofs.Common.{◌≡◌, ◌⊎◌, ℕ, Bool, List, inl, inr, refl, Result}
use Rattle.std.specs.Prelude.{Err}
use Rattle.std.specs.declared.io.Error.{Error}
use Rattle.byte_streams.specs.Devices.{Account}
use Rattle.command_lines.specs.declared.complaints.FileFault.{FileFault}
use Rattle.command_lines.specs.declared.complaints.FileFault.TheVariants.{NotRead}
use Rattle.command_lines.specs.declared.gqlfmt.Mode.{Mode}
use Rattle.command_lines.specs.declared.gqlfmt.Mode.TheVariants.{Write, Check, Diff, Print}
use Rattle.named_files.specs.Handling as handling
use Rattle.gqlfmt_run.specs.Input.{IsOutput}
use Rattle.gqlfmt_run.specs.Paths.{HandlesFile}
use Rattle.gqlfmt_run.specs.declared.job.Bounds.{Bounds}
use Rattle.gqlfmt_run.specs.declared.settlement.Settled.{Settled}

module _ {S : Type 0} (reads : S → List ℕ → Result (List ℕ) Error → S → Type 0)
    (replaces : S → List ℕ → List ℕ → Bool → S → Type 0) (bounds : Bounds) (path : List ℕ) where
  -- one that is not read is left alone in each mode
  pub unread : (mode : Mode) (error : Error) (old new : S) (output : Account) → reads old path (Err error) new
      → HandlesFile reads replaces bounds mode path (Err error) (Err (NotRead error)) old output new output
  unread Write error old new output read = (record { middle = new; read = read; follows = (refl, refl) }, refl)
  unread Check error old new output read = (read, (refl, refl))
  unread Diff error old new output read = (read, (refl, refl))
  unread Print error old new output read = (read, (refl, refl))

  -- one that is read in a mode that changes no file
  pub shown : (mode : Mode) (given : Result (List ℕ) Error) (ended : Result Settled FileFault) (old new : S)
      (output output' : Account) → (mode ≡ Check) ⊎ ((mode ≡ Diff) ⊎ (mode ≡ Print)) → reads old path given new
      → handling.FollowsRead (IsOutput mode bounds path) given ended output output'
      → HandlesFile reads replaces bounds mode path given ended old output new output'
  shown Write given ended old new output output' (inl is) read follows = absurd (let r : ⊥ = cc in r)
  shown Write given ended old new output output' (inr (inl is)) read follows = absurd (let r : ⊥ = cc in r)
  shown Write given ended old new output output' (inr (inr is)) read follows = absurd (let r : ⊥ = cc in r)
  shown Check given ended old new output output' is read follows = (read, follows)
  shown Diff given ended old new output output' is read follows = (read, follows)
  shown Print given ended old new output output' is read follows = (read, follows)
