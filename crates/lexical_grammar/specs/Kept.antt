-- What a change of layout keeps: the significant tokens and the comments. White space and commas are what it may
-- change.
use Rattle.std.specs.List.{flat_map}
use Rattle.std.specs.Prelude.{◌≡◌, ℕ, Bool, true, List, [], ◌∷◌, Option, Some, None, if◌then◌else◌}
use Rattle.lexical_grammar.specs.Cut.{Item, Word, Cut, is_significant_kind, are_tokens}
use Rattle.lexical_grammar.specs.declared.TokenKind.{TokenKind}
use Rattle.lexical_grammar.specs.declared.TokenKind.TheVariants as token

-- significant tokens and comments
abbrev pub is_kept_kind : TokenKind → Bool
is_kept_kind token.Comment = true
is_kept_kind kind = is_significant_kind kind

abbrev pub kept_word : Word → List Word
kept_word word = if is_kept_kind word.kind then word ∷ [] else []

-- the significant tokens and the comments among these tokens, in order
abbrev pub kept : List Word → List Word
kept words = flat_map kept_word words

abbrev pub kept_item : Option TokenKind → List ℕ → List Word
kept_item None text = []
kept_item (Some kind) text = kept_word (record { kind = kind; text = text })

-- the significant tokens and the comments of a cut, in order
abbrev pub Kept : List Item → List Word
Kept items = flat_map (λ item. kept_item item.kind item.text) items

-- The text has a cut without bad text, whose significant tokens and comments are these.
pub record Holds (text : List ℕ) (words : List Word) : Type 0 where
  pub items : List Item
  pub cut : Cut text items
  pub tokens : are_tokens items ≡ true
  pub same : Kept items ≡ words
