use Rattle.std.proofs.Common.{◌≡◌, ◌-◌, ◌≤◌, length, drop}
use Rattle.lexical_grammar.specs.Reads.{quoted_len}
use Rattle.apollo_lexer.proofs.Searches.{longer}
use Rattle.apollo_lexer.proofs.strings.quoted_len.Given as goal

abbrev pub invariant-loop-k : goal.invariant-loop-k
invariant-loop-k l = record {
  within : l.n ≤ length l.bytes;
  so_far : quoted_len 0 l.bytes ≡ longer l.n (quoted_len 0 (drop l.n l.bytes));
}

abbrev pub decreases-loop-k : goal.decreases-loop-k
decreases-loop-k l = length l.bytes - l.n
