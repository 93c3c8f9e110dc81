use Rattle.std.proofs.Common.{ℕ, List, drop}
use Rattle.first_errors.proofs.words.replaced.Given as goal
use Rattle.first_errors.specs.Words.{IsReplaced}

abbrev pub invariant-loop-row : goal.invariant-loop-row
invariant-loop-row l = (shown : List ℕ)
    → IsReplaced (λ row. row.0.now) (λ row. row.1.now) (drop l.row-index l.rows) l.message shown
    → IsReplaced (λ row. row.0.now) (λ row. row.1.now) l.rows l.message shown
