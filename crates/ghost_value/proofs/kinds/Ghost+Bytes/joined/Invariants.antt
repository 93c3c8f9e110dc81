use Rattle.std.specs.Prelude.{◌++◌}
use Rattle.ghost_value.proofs.kinds.Ghost+Bytes.joined.Given as goal

abbrev pub ghost-picked : goal.ghost-picked
ghost-picked a = a._first.now.value ++ a._second.now.text.now
