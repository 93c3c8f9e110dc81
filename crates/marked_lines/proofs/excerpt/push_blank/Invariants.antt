use Rattle.std.specs.Prelude.{string_bytes}
use Rattle.marked_lines.proofs.excerpt.push_blank.Given as goal
use Rattle.marked_lines.specs.Places.{BeginsWith}

abbrev pub invariant-loop : goal.invariant-loop
invariant-loop g l = BeginsWith (string_bytes l.text) (string_bytes l.fn.text)
