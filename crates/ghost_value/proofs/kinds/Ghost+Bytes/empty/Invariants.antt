use Rattle.std.specs.Prelude.{[]}
use Rattle.ghost_value.proofs.kinds.Ghost+Bytes.empty.Given as goal

abbrev pub ghost-picked : goal.ghost-picked
ghost-picked a = []
