-- Positions and ranges, as a client reads them.
use Rattle.std.specs.Prelude.{◌≡◌, ℕ, zero, suc, ◌&&◌, ◌==◌, if◌then◌else◌, List, length, min, slice_index, slice_range}
use Rattle.std.specs.Prelude.{take, decimal, codes}
use Rattle.std.specs.Str.{IsCharBoundary, IsUtf8}
use Rattle.json.specs.Json.{Json, member, no_members, number, object}
use Rattle.line_index.specs.Lines.{line_at, line_start}
use Rattle.line_index.specs.Positions.{offset_of, units, width}
use Rattle.line_index.specs.declared.Position.{Position}
use Rattle.line_index.specs.declared.PositionEncoding.{PositionEncoding}

-- where a cursor may be: no client can name the offset between the CR and the LF of a CR LF, and the line ends in front
-- of them
abbrev pub cursor_at : List ℕ → ℕ → ℕ
cursor_at text zero = zero
cursor_at text (suc k) = if slice_index text k == 13 && slice_index text (suc k) == 10 then k else suc k

-- the position of an offset
abbrev pub position_in : PositionEncoding → List ℕ → ℕ → Position
position_in encoding text offset =
    record { line = line_at text offset; column = width encoding (slice_range text (line_start text offset) offset) }

-- the position of a byte offset, where one after the text counts as its end
abbrev pub position_of : PositionEncoding → List ℕ → ℕ → Position
position_of encoding text offset = position_in encoding text (cursor_at text (min offset (length text)))

-- A client reads the position as this byte offset: as many of its units are in front of both. The text is UTF-8, and a
-- character begins at the offset, or the text ends.
abbrev pub IsReadAt : PositionEncoding → List ℕ → ℕ → Position → Type 0
IsReadAt encoding text offset position =
    IsUtf8 text → IsCharBoundary text offset
    → offset_of encoding (units encoding text) position ≡ length (units encoding (take (cursor_at text offset) text))

-- `Position` and `Range` (Language Server Protocol 3.17)
abbrev pub position_value : Position → Json
position_value p = object
    (member (codes "line") (number (decimal p.line))
    (member (codes "character") (number (decimal p.column)) no_members))

abbrev pub range_value : Position → Position → Json
range_value start end =
    object (member (codes "start") (position_value start) (member (codes "end") (position_value end) no_members))
