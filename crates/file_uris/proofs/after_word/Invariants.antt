use Rattle.std.proofs.Common.{◌≡◌, drop}
use Rattle.file_uris.proofs.after_word.Given as goal
use Rattle.file_uris.specs.Uris.{after_word}

abbrev pub invariant-loop-wanted : goal.invariant-loop-wanted
invariant-loop-wanted l = after_word l.fn.word l.fn.text ≡ after_word (drop l.wanted-index l.fn.word) l.rest
