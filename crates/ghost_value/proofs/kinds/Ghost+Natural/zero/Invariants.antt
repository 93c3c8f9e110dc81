use Rattle.ghost_value.proofs.kinds.Ghost+Natural.zero.Given as goal

abbrev pub ghost-picked : goal.ghost-picked
ghost-picked a = 0
