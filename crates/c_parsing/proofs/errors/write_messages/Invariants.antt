use Rattle.std.proofs.Common.{◌≡◌, length, take}
use Rattle.apollo_parser.specs.Filled.{filled}
use Rattle.c_parsing.proofs.errors.write_messages.Given as goal
use Rattle.c_parsing.specs.Rows.{messages}

-- the messages of the errors that were passed are written
abbrev pub invariant-loop-error : goal.invariant-loop-error
invariant-loop-error g l = record {
  offset : l.at ≡ length (messages (take l.error-index l.errors));
  written : l.buffer ≡ filled l.initial.buffer (messages (take l.error-index l.errors));
}
