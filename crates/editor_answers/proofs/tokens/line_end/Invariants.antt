use Rattle.editor_answers.proofs.tokens.line_end.Given as goal
use Rattle.editor_answers.specs.Parts.{HasNoLineEnd}

abbrev pub invariant-loop-offset : goal.invariant-loop-offset
invariant-loop-offset l = HasNoLineEnd l.source l.start l.offset
