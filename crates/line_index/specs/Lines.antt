-- The lines of a text by its offsets: offset k is in front of byte k, and the last offset is the end of the text.
use Rattle.std.specs.Prelude.{ℕ, zero, suc, ◌+◌, Bool, true, ◌||◌, ◌&&◌, ◌==◌, not, if◌then◌else◌, List, drop}
use Rattle.std.specs.Prelude.{slice_index, take_while}
use Rattle.lexical_grammar.specs.Characters.{is_line_terminator}

-- A line begins at the front of a text, after each LF, and after each CR that no LF follows: LF, CR and CR LF end a
-- line.
abbrev pub begins_line : List ℕ → ℕ → Bool
begins_line text zero = true
begins_line text (suc k) =
    slice_index text k == 10 || (slice_index text k == 13 && not (slice_index text (suc k) == 10))

-- the number of the line that an offset is in, from 0: how many lines begin after the front and up to the offset
abbrev pub line_at : List ℕ → ℕ → ℕ
line_at text zero = 0
line_at text (suc k) = if begins_line text (suc k) then line_at text k + 1 else line_at text k

-- where that line begins: the last offset up to this one at which a line begins
abbrev pub line_start : List ℕ → ℕ → ℕ
line_start text zero = 0
line_start text (suc k) = if begins_line text (suc k) then suc k else line_start text k

-- the text of that line, without its line terminator
abbrev pub line_text : List ℕ → ℕ → List ℕ
line_text text k = take_while (λ c. not (is_line_terminator c)) (drop (line_start text k) text)
