use Rattle.std.proofs.Common.{◌≡◌, take}
use Rattle.std.specs.List.{list_all}
use Rattle.gqlcst_run.proofs.report.quoted.are_plain.Given as goal
use Rattle.gqlcst_run.specs.Quoted.{is_plain}

abbrev pub invariant-loop-byte : goal.invariant-loop-byte
invariant-loop-byte l = l.all ≡ list_all is_plain (take l.byte-index l.bytes)
