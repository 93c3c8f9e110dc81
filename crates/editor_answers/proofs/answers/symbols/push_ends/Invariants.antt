use Rattle.std.proofs.Common.{vec_len}
use Rattle.editor_answers.proofs.answers.symbols.push_ends.Given as goal

abbrev pub decreases-loop-end : goal.decreases-loop-end
decreases-loop-end l = vec_len l.open
