use Rattle.std.proofs.lemmas.Str.{IsUtf8-had}
use Rattle.line_index.proofs.LineIndex.line_text.Goals as goal
use Rattle.line_index.proofs.LineLemmas.{column-boundary}

pub range_from-requires : goal.range_from-requires
range_from-requires g c =
    λ some. rw c.self.view_is
    (column-boundary _ _ _ (rw c.self.view_is at (IsUtf8-had _ c.self.invariant.utf8)) c.requires
    c.line_column.ensures.column)
