use Rattle.std.proofs.Common.{◌≡◌, ◌++◌, take}
use Rattle.std.specs.List.{flat_map}
use Rattle.std.specs.Prelude.{encode_utf8, string_bytes}
use Rattle.gqlfmt_run.proofs.quoted_names.push_bytes.Given as goal
use Rattle.gqlfmt_run.specs.Quoting.{octal}

abbrev pub invariant-loop-byte : goal.invariant-loop-byte
invariant-loop-byte g l =
    string_bytes l.text ≡ string_bytes l.fn.text ++ flat_map octal (take l.byte-index (encode_utf8 l.fn.c))
