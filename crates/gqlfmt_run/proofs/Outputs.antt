-- What is written of a text that is not refused.
use Rattle.std.proofs.Common.{ℕ, List, sym, subst}
use Rattle.command_lines.specs.declared.gqlfmt.Mode.{Mode}
use Rattle.command_lines.specs.declared.gqlfmt.Mode.TheVariants.{Write, Check, Diff, Print}
use Rattle.gqlfmt_run.specs.Formatting.{IsLaidOut}
use Rattle.gqlfmt_run.specs.Input.{IsOutput, IsShown}
use Rattle.gqlfmt_run.specs.declared.job.Bounds.{Bounds}
use Rattle.gqlfmt_run.specs.declared.settlement.Settled.{Settled}
use Rattle.gqlfmt_run.specs.declared.settlement.Settled.TheVariants.{Done, Found}

pub shown_output : (mode : Mode) (bounds : Bounds) (name source text output : List ℕ) (settled : Settled)
    → IsLaidOut bounds source text → IsShown mode name source text settled output
    → IsOutput mode bounds name source settled output
shown_output Write bounds name source text output Done laid shown =
    subst (λ (t : List ℕ). IsLaidOut bounds source t) (sym shown) laid
shown_output Print bounds name source text output Done laid shown =
    subst (λ (t : List ℕ). IsLaidOut bounds source t) (sym shown) laid
shown_output Check bounds name source text output Done laid shown =
    (subst (λ (t : List ℕ). IsLaidOut bounds source t) shown.0 laid, shown.1)
shown_output Diff bounds name source text output Done laid shown =
    (subst (λ (t : List ℕ). IsLaidOut bounds source t) shown.0 laid, shown.1)
shown_output Check bounds name source text output Found laid shown =
    ((text, record { formatted = laid; other = shown.0 }), shown.1)
shown_output Diff bounds name source text output Found laid shown =
    ((text, record { formatted = laid; other = shown.0 }), shown.1)
shown_output mode bounds name source text output settled laid shown = absurd shown
