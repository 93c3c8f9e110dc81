-- Parts of a text, and what is found in them.
use Rattle.std.specs.List.{All, AllPairs}
use Rattle.std.specs.Prelude.{◌≢◌, ℕ, ◌<◌, ◌≤◌, List, slice_index_or, slice_range}
use Rattle.editor_answers.specs.declared.span.Span.{Span}
use Rattle.editor_answers.specs.declared.tokens.SemanticToken.{SemanticToken}

-- the part has the byte at an offset
pub record Holds (offset : ℕ) (part : Span) : Type 0 where
  pub starts : part.start ≤ offset
  pub ends : offset < part.end

-- a part has all of another
pub record Encloses (outer part : Span) : Type 0 where
  pub starts : outer.start ≤ part.start
  pub ends : part.end ≤ outer.end

-- no line ends at a byte: it is no line feed and no carriage return
pub record IsInLine (byte : ℕ) : Type 0 where
  pub no_line_feed : byte ≢ 10
  pub no_carriage_return : byte ≢ 13

-- no line of a text ends from one offset up to another
abbrev pub HasNoLineEnd : List ℕ → ℕ → ℕ → Type 0
HasNoLineEnd text start end = (k : ℕ) → k < end → start ≤ k → IsInLine (slice_index_or text k 0)

-- a token ends before another begins
abbrev pub IsBefore : SemanticToken → SemanticToken → Type 0
IsBefore first second = first.span.end ≤ second.span.start

-- tokens of a text in their order, none of them over the end of a line
pub record AreInOrder (text : List ℕ) (tokens : List SemanticToken) : Type 0 where
  pub order : AllPairs IsBefore tokens
  pub lines : All (λ token. HasNoLineEnd text token.span.start token.span.end) tokens

-- each of the tokens ends at an offset or before it
abbrev pub EndBefore : ℕ → List SemanticToken → Type 0
EndBefore offset tokens = All (λ token. token.span.end ≤ offset) tokens

abbrev pub text_in : List ℕ → Span → List ℕ
text_in text part = slice_range text part.start part.end

abbrev pub bounds : Span → ℕ × ℕ
bounds part = (part.start, part.end)
