use Rattle.std.proofs.Common.{ap, ◌∙◌, string_bytes}
use Rattle.std.proofs.lemmas.Str.{IsUtf8-string_bytes}
use Rattle.formatter.proofs.line_ends.with_line_end.Goals as goal
use Rattle.formatter.proofs.lines.Items.{same-count}
use Rattle.formatter.specs.LineEnds.{with_line_end}

pub returns-clause-items : goal.returns-clause-items
returns-clause-items g c = λ words holds.
    same-count c.args.end (string_bytes c.args.text) (string_bytes c.in_ok-other.other) words
    (IsUtf8-string_bytes c.args.text)
    (IsUtf8-string_bytes c.in_ok-other.other)
    (c.in_ok-other.ensures.lines ∙ ap (with_line_end c.args.end) c.as_str-2.ensures.value) holds
