-- The status that the program ends with, and what it says on standard error.
use Rattle.std.specs.Prelude.{◌≡◌, ℕ, List, codes, Result, Ok, Err}
use Rattle.byte_streams.specs.Devices.{Account}
use Rattle.byte_streams.specs.declared.fault.Fault.{Fault}
use Rattle.byte_streams.specs.declared.fault.Fault.TheVariants.{Read, Utf8, Memory, Write}
use Rattle.command_lines.specs.Streams.{IsSaid}
use Rattle.gqlcst_run.specs.declared.finding.Finding.{Finding}
use Rattle.gqlcst_run.specs.declared.finding.Finding.TheVariants.{Clean, Errors}

-- 0 where the text is clean, 1 where it has errors, 2 where that wasn't found out
abbrev pub status_of : Result Finding Fault → ℕ
status_of (Ok Clean) = 0
status_of (Ok (Errors n)) = 1
status_of (Err fault) = 2

abbrev pub complaint_of : Fault → List ℕ
complaint_of Read = codes "gqlcst: cannot read\n"
complaint_of Utf8 = codes "gqlcst: input is not UTF-8\n"
complaint_of Memory = codes "gqlcst: out of memory\n"
complaint_of Write = codes "gqlcst: cannot write\n"

-- Nothing is said of a text with a finding, and else why there is none.
abbrev pub Says : Result Finding Fault → Account → Account → Type 0
Says (Ok finding) old new = new ≡ old
Says (Err fault) old new = IsSaid (complaint_of fault) old new
