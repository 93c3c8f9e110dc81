use Rattle.std.proofs.Common.{◌≡◌, ◌++◌}
use Rattle.std.specs.Prelude.{string_bytes}
use Rattle.std.specs.Str.{IsUtf8}
use Rattle.std.specs.Str.Iter.{chars_rest}
use Rattle.marked_lines.proofs.escapes.push_escaped.Given as goal
use Rattle.marked_lines.specs.Escaping.{shown}

-- what is shown so far and what is left is the text
abbrev pub invariant-loop-c : goal.invariant-loop-c
invariant-loop-c g l =
    IsUtf8 (chars_rest l.c-iterator)
    × (string_bytes l.report ++ shown (chars_rest l.c-iterator) ≡ string_bytes l.fn.report ++ shown l.fn.text)
