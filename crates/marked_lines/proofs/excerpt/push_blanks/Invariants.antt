use Rattle.std.specs.Prelude.{string_bytes}
use Rattle.marked_lines.proofs.excerpt.push_blanks.Given as goal
use Rattle.marked_lines.specs.Places.{BeginsWith}

abbrev pub invariant-loop-c : goal.invariant-loop-c
invariant-loop-c g l = BeginsWith (string_bytes l.text) (string_bytes l.fn.text)
