use Rattle.std.specs.Prelude.{◌+◌}
use Rattle.ghost_value.proofs.kinds.Ghost+Natural.add_one.Given as goal

abbrev pub ghost-picked : goal.ghost-picked
ghost-picked a = a._first.now.value + 1
