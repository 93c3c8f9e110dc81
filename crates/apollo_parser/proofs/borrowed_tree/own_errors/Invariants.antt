use Rattle.std.proofs.Common.{◌≡◌, map, take}
use Rattle.parser_state.specs.Errors.{error_of}
use Rattle.apollo_parser.proofs.borrowed_tree.own_errors.Given as goal

abbrev pub invariant-loop-error : goal.invariant-loop-error
invariant-loop-error g l = l.own.items ≡ map error_of (take l.error-index l.errors)
