-- What a client has. Its text is a list of units, in the encoding that it agreed on with the server, and its positions
-- count lines and units.
use Rattle.std.specs.List.{replace_range}
use Rattle.std.specs.Prelude.{◌≡◌, ℕ, ◌≤◌, max, List, length, take, fold}
use Rattle.std.specs.Str.{IsCharBoundary}
use Rattle.std.specs.declared.option.Option.{Option}
use Rattle.std.specs.declared.option.Option.TheVariants.{Some, None}
use Rattle.line_index.specs.Positions.{units, offset_of}
use Rattle.line_index.specs.declared.PositionEncoding.{PositionEncoding}
use Rattle.editor_text.specs.declared.Change.{Change}
use Rattle.editor_text.specs.declared.PositionRange.{PositionRange}

-- an open document: the encoding, and the bytes of the text
pub record Opened : Type 0 where
  pub encoding : PositionEncoding
  pub text : List ℕ

-- The client's text after a change to its text: a range, from an offset up to another, is replaced. Without a range it
-- is the whole text. A range that ends before it starts is empty.
abbrev pub replaced : PositionEncoding → List ℕ → Option PositionRange → List ℕ → List ℕ
replaced encoding text None new = new
replaced encoding text (Some range) new =
    let start = offset_of encoding text range.start in
    let end = offset_of encoding text range.end in
    replace_range text start (max start end) new

abbrev pub changed : PositionEncoding → List ℕ → Change → List ℕ
changed encoding text change = replaced encoding text change.range (units encoding change.text.now)

-- the client's text after some changes, each of the text that the one before it left
abbrev pub changed_all : PositionEncoding → List ℕ → List Change → List ℕ
changed_all encoding text changes = fold (changed encoding) text changes

-- two offsets of a text in bytes, which are those of a range
pub record AreOffsets (encoding : PositionEncoding) (text : List ℕ) (range : PositionRange)
    (start end : ℕ) : Type 0 where
  pub ordered : start ≤ end
  pub starts : IsCharBoundary text start
  pub ends : IsCharBoundary text end
  pub start_offset : length (units encoding (take start text)) ≡ offset_of encoding (units encoding text) range.start
  pub end_offset : length (units encoding (take end text)) ≡ max (offset_of encoding (units encoding text) range.start)
      (offset_of encoding (units encoding text) range.end)
