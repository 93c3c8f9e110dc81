-- What a writer has written: which significant tokens and comments, and what the text ends with.
use Rattle.std.specs.Prelude.{◌≡◌, ℕ, ◌+◌, ◌*◌, ◌≤◌, Bool, true, ◌||◌, ◌==◌, List, ◌++◌, length}
use Rattle.lexical_grammar.specs.Cut.{Word}
use Rattle.lexical_grammar.specs.Edges.{may_touch, AreTokens, are_apart, last_edge, joined}
use Rattle.lexical_grammar.specs.Kept.{kept_word, kept}
use Rattle.lexical_grammar.specs.declared.TokenKind.TheVariants as token
use Rattle.lexical_grammar.specs.declared.edge.Edge.{Edge}
use Rattle.lexical_grammar.specs.declared.edge.Edge.TheVariants.{Comment, Whitespace}

-- how many tokens white space adds at the end: none where there is some already
abbrev pub blank_room : Edge → ℕ
blank_room Whitespace = 0
blank_room edge = 1

-- Some tokens, each of which may directly follow the one before it, spell the text. They end with this edge, and those
-- of them that are significant or comments are these words. At most `most` of them are not white space, and there is
-- white space at most once before each of these, and after the last.
pub record Laid (text : List ℕ) (edge : Edge) (most : ℕ) (words : List Word) : Type 0 where
  pub all : List Word
  pub spelled : joined all ≡ text
  pub tokens : AreTokens all
  pub apart : are_apart all ≡ true
  pub ends : last_edge all ≡ edge
  pub same : kept all ≡ words
  pub few : length all + blank_room edge ≤ 2 * most + 1

-- nothing significant was written, and no comment
abbrev pub Keeps : List ℕ → Edge → ℕ → List ℕ → Edge → ℕ → Type 0
Keeps text edge most more next count = (words : List Word) → Laid text edge most words → Laid more next count words

-- the word was written, if it is significant or a comment, and no other one
abbrev pub Adds : List ℕ → Edge → ℕ → Word → List ℕ → Edge → ℕ → Type 0
Adds text edge most word more next count =
    (words : List Word) → Laid text edge most words → Laid more next count (words ++ kept_word word)

-- a line feed or a space
abbrev pub is_gap_byte : ℕ → Bool
is_gap_byte b = b == 10 || b == 32

-- this line feed or space may follow: in white space, which goes on, or directly after another token
abbrev pub takes_blank : Edge → ℕ → Bool
takes_blank Whitespace b = true
takes_blank edge b = may_touch edge token.Whitespace b

-- how many bytes the text has, and one more for the line feed that is still to follow where it ends with a comment
abbrev pub ended_length : List ℕ → Edge → ℕ
ended_length text Comment = length text + 1
ended_length text edge = length text
