use Rattle.std.proofs.Common.{◌≡◌, drop}
use Rattle.command_lines.proofs.information.information_of.Given as goal
use Rattle.command_lines.specs.Information.{information_of}
use Rattle.command_lines.specs.Words.{texts}

abbrev pub invariant-loop-word : goal.invariant-loop-word
invariant-loop-word l = information_of (texts l.words) ≡ information_of (texts (drop l.word-index l.words))
