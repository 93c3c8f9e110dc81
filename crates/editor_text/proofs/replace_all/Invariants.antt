use Rattle.std.proofs.Common.{◌≡◌, take}
use Rattle.std.specs.Prelude.{string_bytes}
use Rattle.line_index.specs.LineStarts.{AreFirstStarts}
use Rattle.line_index.specs.Positions.{units}
use Rattle.editor_text.proofs.replace_all.Given as goal
use Rattle.editor_text.specs.Client.{changed_all}

abbrev pub invariant-loop-change : goal.invariant-loop-change
invariant-loop-change l = AreFirstStarts (string_bytes l.text) l.lines
    × (units l.encoding (string_bytes l.text)
    ≡ changed_all l.encoding (units l.encoding (string_bytes l.initial.text)) (take l.change-index l.changes))
