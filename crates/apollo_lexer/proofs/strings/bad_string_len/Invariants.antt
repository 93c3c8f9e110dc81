use Rattle.std.proofs.Common.{◌≡◌, ◌-◌, ◌≤◌, length, drop}
use Rattle.apollo_lexer.proofs.Searches.{longer}
use Rattle.apollo_lexer.proofs.strings.bad_string_len.Given as goal
use Rattle.apollo_lexer.specs.StringParts.{read_bad}

abbrev pub invariant-loop-k : goal.invariant-loop-k
invariant-loop-k l = record {
  within : l.n ≤ length l.bytes;
  so_far : read_bad l.bytes ≡ longer l.n (read_bad (drop l.n l.bytes));
}

abbrev pub decreases-loop-k : goal.decreases-loop-k
decreases-loop-k l = length l.bytes - l.n
