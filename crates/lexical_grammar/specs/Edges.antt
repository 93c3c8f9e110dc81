-- Which tokens may follow one another directly, with nothing between them. It depends on how the first ends and the
-- next begins with: a comment goes on to the end of its line, a name takes in letters and digits, a number is followed
-- by no letter, and one more quote after the empty string begins a block string.
use Rattle.std.specs.List.{AllByRecursion, flat_map}
use Rattle.std.specs.Prelude.{ℕ, ◌+◌, Bool, true, not, ◌&&◌, ◌||◌, ◌==◌, List, [], ◌∷◌, Some, length, slice_index}
use Rattle.std.specs.Prelude.{if◌then◌else◌, bytes_eq}
use Rattle.lexical_grammar.specs.Begins.{is_whitespace}
use Rattle.lexical_grammar.specs.Characters.{is_line_terminator, is_name_continue, is_name_start, is_digit}
use Rattle.lexical_grammar.specs.Cut.{Item, Word, end_at}
use Rattle.lexical_grammar.specs.Tokens.{Tok}
use Rattle.lexical_grammar.specs.declared.TokenKind.{TokenKind}
use Rattle.lexical_grammar.specs.declared.TokenKind.TheVariants as token
use Rattle.lexical_grammar.specs.declared.edge.Edge.{Edge}
use Rattle.lexical_grammar.specs.declared.edge.Edge.TheVariants as edge

-- what a text ends with when its last token is this one
abbrev pub edge_of : TokenKind → List ℕ → Edge
edge_of token.Whitespace text = edge.Whitespace
edge_of token.Comment text = edge.Comment
edge_of token.Name text = edge.Name
edge_of token.Int text = edge.Number
edge_of token.Float text = edge.Number
edge_of token.StringValue text = if bytes_eq text (34 ∷ 34 ∷ []) then edge.EmptyString else edge.Free
edge_of _ text = edge.Free

-- a token of the kind that begins with this byte may follow directly
abbrev pub may_touch : Edge → TokenKind → ℕ → Bool
may_touch edge.Free kind b = true
may_touch edge.Whitespace kind b = not (is_whitespace (Some kind))
may_touch edge.Comment kind b = is_line_terminator b
may_touch edge.Name kind b = not (is_name_continue b)
may_touch edge.Number kind b = not ((is_digit b || b == 46) || is_name_start b)
may_touch edge.EmptyString kind b = not (b == 34)

-- the token may follow directly
abbrev pub touches : Edge → Word → Bool
touches edge word = may_touch edge word.kind (slice_index word.text 0)

-- each text is a token of its kind
abbrev pub AreTokens : List Word → Type 0
AreTokens words = AllByRecursion (λ word. Tok word.kind word.text) words

-- each token may directly follow the one before it
abbrev pub are_apart : List Word → Bool
are_apart [] = true
are_apart (word ∷ []) = true
are_apart (word ∷ next ∷ words) = touches (edge_of word.kind word.text) next && are_apart (next ∷ words)

-- what these tokens end with
abbrev pub last_edge : List Word → Edge
last_edge [] = edge.Free
last_edge (word ∷ []) = edge_of word.kind word.text
last_edge (word ∷ next ∷ words) = last_edge (next ∷ words)

-- the text of tokens with nothing between them
abbrev pub joined : List Word → List ℕ
joined words = flat_map (λ word. word.text) words

-- the items of these tokens from the offset on
abbrev pub items_at : ℕ → List Word → List Item
items_at offset [] = end_at offset ∷ []
items_at offset (word ∷ words) =
    record { kind = Some word.kind; text = word.text; index = offset } ∷ items_at (offset + length word.text) words
