use Rattle.std.proofs.Common.{◌≡◌}
use Rattle.std.specs.List.{list_any}
use Rattle.std.specs.Str.{IsUtf8, chars}
use Rattle.std.specs.Str.Iter.{chars_rest}
use Rattle.gqlfmt_run.proofs.quoted_names.has_escaped.Given as goal
use Rattle.gqlfmt_run.specs.Quoting.{is_escaped}

-- none of the characters so far is escaped
abbrev pub invariant-loop-c : goal.invariant-loop-c
invariant-loop-c l =
    IsUtf8 (chars_rest l.c-iterator)
    × (list_any is_escaped (chars (chars_rest l.c-iterator)) ≡ list_any is_escaped (chars l.fn.name))
