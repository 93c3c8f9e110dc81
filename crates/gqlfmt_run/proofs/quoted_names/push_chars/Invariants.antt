use Rattle.std.proofs.Common.{◌≡◌, ◌++◌}
use Rattle.std.specs.List.{flat_map}
use Rattle.std.specs.Prelude.{string_bytes}
use Rattle.std.specs.Str.{IsUtf8, chars}
use Rattle.std.specs.Str.Iter.{chars_rest}
use Rattle.gqlfmt_run.proofs.quoted_names.push_chars.Given as goal
use Rattle.gqlfmt_run.specs.Quoting.{quoted_char}

-- what is put so far and what is left is the name
abbrev pub invariant-loop-c : goal.invariant-loop-c
invariant-loop-c g l =
    IsUtf8 (chars_rest l.c-iterator)
    × (string_bytes l.text ++ flat_map quoted_char (chars (chars_rest l.c-iterator)) ≡ string_bytes l.fn.text
    ++ flat_map quoted_char (chars l.fn.name))
