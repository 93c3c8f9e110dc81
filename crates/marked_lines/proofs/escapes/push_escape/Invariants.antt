use Rattle.std.proofs.Common.{◌≡◌, ◌++◌}
use Rattle.std.specs.Char.Escape.{escape_unicode}
use Rattle.std.specs.Char.Iter.{escape_rest}
use Rattle.std.specs.Prelude.{encode_utf8_all, string_bytes}
use Rattle.marked_lines.proofs.escapes.push_escape.Given as goal

-- what is put so far and what is left is the escape
abbrev pub invariant-loop-part : goal.invariant-loop-part
invariant-loop-part g l =
    string_bytes l.report ++ encode_utf8_all (escape_rest l.part-iterator) ≡ string_bytes l.fn.report
    ++ encode_utf8_all (escape_unicode l.fn.c)
