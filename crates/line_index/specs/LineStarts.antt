-- The list of all line starts.
use Rattle.std.specs.Prelude.{◌≡◌, ℕ, ◌+◌, ◌<◌, ◌≤◌, List, length, slice_index}
use Rattle.std.specs.Str.{IsUtf8}
use Rattle.line_index.specs.Columns.{weight}
use Rattle.line_index.specs.Lines.{line_at, line_start}
use Rattle.line_index.specs.Marks.{AreMarks}
use Rattle.line_index.specs.declared.Counted.TheVariants.{Characters, Utf16Units}

-- These are the offsets up to `end` at which a line begins, in order.
pub record AreStarts (text : List ℕ) (end : ℕ) (starts : List ℕ) : Type 0 where
  pub within : (i : ℕ) → i < length starts → slice_index starts i ≤ end
  pub begin : (i : ℕ) → i < length starts → line_start text (slice_index starts i) ≡ slice_index starts i
  pub number : (i : ℕ) → i < length starts → line_at text (slice_index starts i) ≡ i
  pub all : length starts ≡ line_at text end + 1

-- Here the first lines of a text begin, at least the one at its front.
pub record AreFirstStarts (text starts : List ℕ) : Type 0 where
  pub some : 0 < length starts
  pub within : (i : ℕ) → i < length starts → slice_index starts i ≤ length text
  pub begin : (i : ℕ) → i < length starts → line_start text (slice_index starts i) ≡ slice_index starts i
  pub number : (i : ℕ) → i < length starts → line_at text (slice_index starts i) ≡ i

-- the next line after an offset begins here
pub record IsNextStart (text : List ℕ) (offset next : ℕ) : Type 0 where
  pub after : offset < next
  pub within : next ≤ length text
  pub begins : line_start text next ≡ next
  pub number : line_at text next ≡ line_at text offset + 1

-- these are the line starts and the marks of a text in UTF-8
pub record IsIndexed (text offsets characters units : List ℕ) : Type 0 where
  pub utf8 : ∥ IsUtf8 text ∥₁
  pub starts : AreStarts text (length text) offsets
  pub character_marks : AreMarks (weight Characters) text characters
  pub utf16_marks : AreMarks (weight Utf16Units) text units
