use Rattle.std.proofs.Common.{◌≡◌, ◌++◌, take}
use Rattle.gqlcheck_run.proofs.github.push_data.Given as goal
use Rattle.gqlcheck_run.specs.GithubCommands.{message_data}

abbrev pub invariant-loop-byte : goal.invariant-loop-byte
invariant-loop-byte g l = l.lines.items ≡ l.initial.lines.items ++ message_data (take l.byte-index l.byte-items)
