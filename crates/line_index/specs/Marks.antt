-- The sums of the weights of a text's bytes before every 64th byte. A text in ASCII needs none of them, since each of
-- its bytes counts one.
use Rattle.std.specs.List.{sum_by}
use Rattle.std.specs.Prelude.{◌≡◌, ℕ, ◌+◌, ◌*◌, ◌<◌, ◌≤◌, List, length, slice_index, take}
use Rattle.std.specs.Str.{IsAscii}

pub record AreMarks (weight : ℕ → ℕ) (text marks : List ℕ) : Type 0 where
  pub sums : (i : ℕ) → i < length marks → slice_index marks i ≡ sum_by weight (take (64 * i) text)
  pub all : 0 < length marks → length text < 64 * length marks
  pub none : length marks ≡ 0 → IsAscii text
  pub within : 64 * length marks ≤ length text + 64
