use Rattle.std.proofs.Common.{◌-◌, length}
use Rattle.apollo_lexer.proofs.NumberRuns.{ReadsTo}
use Rattle.apollo_lexer.proofs.numbers.number_len.Given as goal

abbrev pub invariant-loop-n : goal.invariant-loop-n
invariant-loop-n l = ReadsTo l.bytes l.state l.n

abbrev pub decreases-loop-n : goal.decreases-loop-n
decreases-loop-n l = length l.bytes - l.n
