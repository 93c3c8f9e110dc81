use Rattle.std.proofs.Common.{take}
use Rattle.std.specs.List.{All}
use Rattle.c_parsing.proofs.errors.ends_fit.Given as goal
use Rattle.c_parsing.specs.Rows.{EndFits}

abbrev pub invariant-loop-error : goal.invariant-loop-error
invariant-loop-error g l = All EndFits (take l.error-index l.errors)
