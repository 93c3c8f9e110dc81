-- Which token is at a byte of a text, whatever the text is cut into.
use Rattle.std.specs.Prelude.{◌≡◌, ℕ, ◌+◌, ◌<◌, ◌≤◌, List, length, take, drop, Option, Some, None}
use Rattle.lexical_grammar.specs.Cut.{Item, Stands}
use Rattle.lexical_grammar.specs.declared.TokenKind.{TokenKind}

-- the n bytes of the text at the offset are a token of the kind
pub record TokenAt (source : List ℕ) (offset : ℕ) (kind : TokenKind) (n : ℕ) : Type 0 where
  pub within : offset + n ≤ length source
  pub stands : Stands kind (take n (drop offset source)) (drop (offset + n) source)

-- The item is at the offset: its index is the offset, its text is what the source has there, and it is the token that
-- is there, or bad text when none is.
abbrev pub StandsAs : List ℕ → ℕ → Option TokenKind → List ℕ → Type 0
StandsAs source offset (Some kind) text = TokenAt source offset kind (length text)
StandsAs source offset None text = (kind : TokenKind) (n : ℕ) → TokenAt source offset kind n → ⊥

pub record StandsIn (source : List ℕ) (offset : ℕ) (item : Item) : Type 0 where
  pub index : item.index ≡ offset
  pub text : item.text ≡ take (length item.text) (drop offset source)
  pub some : 0 < length item.text
  pub stands : StandsAs source offset item.kind item.text
