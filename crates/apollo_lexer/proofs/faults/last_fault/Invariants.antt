use Rattle.std.proofs.Common.{◌≡◌, ◌≤◌, ◌-◌, length, drop}
use Rattle.apollo_lexer.proofs.faults.last_fault.Given as goal
use Rattle.apollo_lexer.specs.BadText.{last_fault}
use Rattle.apollo_lexer.specs.declared.faults.LexFault.TheVariants.{UnterminatedString}

abbrev pub invariant-loop-part : goal.invariant-loop-part
invariant-loop-part l =
    record {
      within : l.n ≤ length l.inside;
      so_far : last_fault UnterminatedString 0 l.inside ≡ last_fault l.last 0 (drop l.n l.inside);
    }

abbrev pub decreases-loop-part : goal.decreases-loop-part
decreases-loop-part l = length l.inside - l.n
