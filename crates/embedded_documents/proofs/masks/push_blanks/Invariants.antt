use Rattle.std.proofs.Common.{◌≡◌, ◌++◌, map, take}
use Rattle.std.specs.Prelude.{string_bytes}
use Rattle.embedded_documents.proofs.masks.push_blanks.Given as goal
use Rattle.embedded_documents.specs.Masked.{blank}

abbrev pub invariant-loop-byte : goal.invariant-loop-byte
invariant-loop-byte l = string_bytes l.masked ≡ string_bytes l.initial.masked ++ map blank (take l.byte-index l.bytes)
