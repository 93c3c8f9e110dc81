use Rattle.gqlls_server.proofs.completion.word_start.Given as goal

abbrev pub decreases-loop-start : goal.decreases-loop-start
decreases-loop-start l = l.start
