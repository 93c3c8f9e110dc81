use Rattle.std.proofs.Common.{◌≡◌, length, take}
use Rattle.apollo_parser.specs.Filled.{filled}
use Rattle.c_parsing.proofs.errors.write_errors.Given as goal
use Rattle.c_parsing.specs.Rows.{error_rows, messages}

-- the errors that were passed have their rows
abbrev pub invariant-loop-index : goal.invariant-loop-index
invariant-loop-index g l = record {
  offset : l.message ≡ length (messages (take l.index l.errors));
  rows : l.rows ≡ filled l.initial.rows (take l.index (error_rows 0 l.errors));
}
