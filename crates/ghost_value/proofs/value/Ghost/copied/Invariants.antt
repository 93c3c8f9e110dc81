use Rattle.ghost_value.proofs.value.Ghost.copied.Given as goal

abbrev pub ghost-picked : goal.ghost-picked
ghost-picked g a = a._first.now.value
