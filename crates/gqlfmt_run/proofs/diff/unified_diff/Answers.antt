use Rattle.std.proofs.Common.{◌≡◌, ℕ, List, string_bytes, ◌++◌, append_assoc, subst}
use Rattle.std.proofs.lemmas.Result.{IfOk-weaker}
use Rattle.std.specs.Prelude.{codes}
use Rattle.gqlfmt_run.proofs.diff.unified_diff.Goals as goal

pub returns-clause-other : goal.returns-clause-other
returns-clause-other g c = IfOk-weaker c.format.result _ _ (λ s e other.
    let head = string_bytes c.in_ok-head.head in
    let hunks = string_bytes c.in_ok-hunks.hunks in
    let printed : string_bytes s ≡ codes "--- " ++ (head ++ (codes "\n+++ " ++ (head ++ (codes "\n" ++ hunks)))) =
    e in (
      hunks,
      subst (λ (n : List ℕ). string_bytes s ≡ codes "--- " ++ n ++ codes "\n+++ " ++ n ++ codes "\n" ++ hunks)
          c.in_ok-head.ensures
          (simp append_assoc printed),
    )) c.format.ensures.ok
