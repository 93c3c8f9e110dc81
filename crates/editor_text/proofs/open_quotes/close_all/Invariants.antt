use Rattle.std.proofs.Common.{◌-◌, length}
use Rattle.editor_text.proofs.open_quotes.close_all.Given as goal

abbrev pub decreases-loop-start : goal.decreases-loop-start
decreases-loop-start l = length l.bytes - l.start
