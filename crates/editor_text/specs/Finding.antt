-- Edits by byte offsets.
use Rattle.std.specs.Prelude.{◌≡◌, ℕ, ◌<◌, ◌≤◌, ◌+◌, List, [], ◌∷◌, ◌++◌, drop, slice_range}
use Rattle.std.specs.Str.{IsCharBoundary, IsUtf8}
use Rattle.line_index.specs.Positions.{IsCursor}
use Rattle.editor_text.specs.declared.differences.Edit.{Edit}
use Rattle.editor_text.specs.declared.differences.Step.{Step}

-- what edits make of a text from an offset on, where each refers to the text before all of them
abbrev pub spliced : List ℕ → ℕ → List Edit → List ℕ
spliced text from [] = drop from text
spliced text from (edit ∷ edits) = slice_range text from edit.start ++ (edit.text.now ++ spliced text edit.end edits)

-- an edit after an offset: none of its ends is inside a character or a CR LF
pub record IsAfter (text : List ℕ) (from : ℕ) (edit : Edit) : Type 0 where
  pub after : from ≤ edit.start
  pub ordered : edit.start ≤ edit.end
  pub starts : IsCursor text edit.start
  pub ends : IsCursor text edit.end
  pub utf8 : IsUtf8 edit.text.now

-- edits after an offset, in their order
abbrev pub AreAfter : List ℕ → ℕ → List Edit → Type 0
AreAfter text from [] = Unit {0}
AreAfter text from (edit ∷ edits) = IsAfter text from edit × AreAfter text edit.end edits

-- the edits make the new text of the old one
pub record AreEdits (old new : List ℕ) (edits : List Edit) : Type 0 where
  pub after : AreAfter old 0 edits
  pub made : spliced old 0 edits ≡ new

-- one edit after two offsets, up to which the texts are dealt with
pub record IsStep (old new : List ℕ) (from to : ℕ) (step : Step) : Type 0 where
  pub after : from ≤ step.start
  pub ordered : step.start ≤ step.end
  pub text_after : to ≤ step.text_start
  pub text_ordered : step.text_start ≤ step.text_end
  pub starts : IsCursor old step.start
  pub ends : IsCursor old step.end
  pub text_starts : IsCharBoundary new step.text_start
  pub text_ends : IsCharBoundary new step.text_end
  pub same : slice_range old from step.start ≡ slice_range new to step.text_start
  pub advances : from + to < step.end + step.text_end
