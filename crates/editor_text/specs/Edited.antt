-- Edits of a client's text (`TextEdit`, Language Server Protocol 3.17): "Text edits ranges must never overlap", and all
-- refer to the text before them.
use Rattle.std.specs.Prelude.{ℕ, ◌≤◌, List, [], ◌∷◌, ◌++◌, codes, drop, slice_range}
use Rattle.json.specs.Json.{Items, Json, array, item, member, no_items, no_members, object, string}
use Rattle.line_index.specs.Positions.{offset_of, units}
use Rattle.line_index.specs.declared.PositionEncoding.{PositionEncoding}
use Rattle.editor_diagnostics.specs.Positions.{range_value}
use Rattle.editor_text.specs.declared.PositionRange.{PositionRange}

-- a range, and the text that takes its place
abbrev pub TextEdit : Type 0
TextEdit = PositionRange × List ℕ

-- ---- what a client does

-- The client's text, from an offset on, after edits in their order: up to each range it stays as it was.
abbrev pub edited : PositionEncoding → List ℕ → ℕ → List TextEdit → List ℕ
edited encoding text from [] = drop from text
edited encoding text from ((range, new) ∷ edits) =
    slice_range text from (offset_of encoding text range.start)
    ++ (units encoding new ++ edited encoding text (offset_of encoding text range.end) edits)

-- From an offset on, each range begins where the one before it ends, or later.
abbrev pub AreApart : PositionEncoding → List ℕ → ℕ → List TextEdit → Type 0
AreApart encoding text from [] = Unit {0}
AreApart encoding text from ((range, new) ∷ edits) =
    (from ≤ offset_of encoding text range.start)
    × (offset_of encoding text range.start ≤ offset_of encoding text range.end)
    × AreApart encoding text (offset_of encoding text range.end) edits

-- ---- their JSON

abbrev pub edit_value : TextEdit → Json
edit_value (range, new) =
    object (member (codes "range") (range_value range.start range.end)
    (member (codes "newText") (string new) no_members))

abbrev pub items_of_edits : List TextEdit → Items
items_of_edits [] = no_items
items_of_edits (edit ∷ edits) = item (edit_value edit) (items_of_edits edits)

-- `TextEdit[]`
abbrev pub edits_value : List TextEdit → Json
edits_value edits = array (items_of_edits edits)
