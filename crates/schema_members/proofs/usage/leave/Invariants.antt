use Rattle.std.proofs.Common.{vec_len}
use Rattle.schema_members.proofs.usage.leave.Given as goal

abbrev pub decreases-loop-scope : goal.decreases-loop-scope
decreases-loop-scope l = vec_len l.scopes
