use Rattle.std.proofs.Common.{arith, ap, length}
use Rattle.c_parsing.proofs.errors.row_of.Goals as goal

pub overflow_add-result : goal.overflow_add-result
overflow_add-result g c = omega (arith, c.index-start.ensures, ap length c.data.ensures, c.requires)
