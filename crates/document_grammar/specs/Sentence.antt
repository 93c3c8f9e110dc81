-- Sentences: texts whose significant tokens a derivation spells (GraphQL October 2021, section 2.1.6, "Lexical Tokens",
-- for the cut, and section 2.2, "Document").
use Rattle.std.specs.Prelude.{◌≡◌, ℕ, ◌≤◌, true, List, ◌++◌, length, map}
use Rattle.std.specs.Str.{IsUtf8}
use Rattle.lexical_grammar.specs.Cut.{Item, Word, Cut, Significant, are_tokens}
use Rattle.lexical_grammar.specs.declared.TokenKind.{TokenKind}
use Rattle.lexical_grammar.specs.declared.TokenKind.TheVariants as token
use Rattle.document_grammar.specs.Derivation.{Sort, document, DerivationBy, Spells, Yield, nest, Terminal, terminals}
use Rattle.document_grammar.specs.Kinds.{WHITESPACE, COMMENT, COMMA, ERROR, BANG, DOLLAR, AMP, SPREAD, COLON, EQ, AT}
use Rattle.document_grammar.specs.Kinds.{L_PAREN, R_PAREN, L_BRACK, R_BRACK, L_CURLY, R_CURLY, PIPE, IDENT, INT, FLOAT}
use Rattle.document_grammar.specs.Kinds.{STRING}
use Rattle.document_grammar.specs.Pattern.{Pattern}
use Rattle.document_grammar.specs.Rows.{Row, FirstRow}
use Rattle.document_grammar.specs.Tree.{Token, Tree}

-- the number of the leaf of a token, IDENT for each Name, keywords among them; the end, which has no leaf, has ERROR's
abbrev pub leaf_number : TokenKind → ℕ
leaf_number token.Whitespace = WHITESPACE
leaf_number token.Comment = COMMENT
leaf_number token.Comma = COMMA
leaf_number token.Eof = ERROR
leaf_number token.Bang = BANG
leaf_number token.Dollar = DOLLAR
leaf_number token.Amp = AMP
leaf_number token.Spread = SPREAD
leaf_number token.Colon = COLON
leaf_number token.Eq = EQ
leaf_number token.At = AT
leaf_number token.LParen = L_PAREN
leaf_number token.RParen = R_PAREN
leaf_number token.LBracket = L_BRACK
leaf_number token.RBracket = R_BRACK
leaf_number token.LCurly = L_CURLY
leaf_number token.RCurly = R_CURLY
leaf_number token.Pipe = PIPE
leaf_number token.Name = IDENT
leaf_number token.Int = INT
leaf_number token.Float = FLOAT
leaf_number token.StringValue = STRING

abbrev pub token_of : Word → Token
token_of word = (leaf_number word.kind, word.text)

-- The significant tokens of some items.
abbrev pub tokens_of : List Item → List Token
tokens_of items = map token_of (Significant items)

-- The text is a sentence of the sort by a table of rows, with this derivation: a cut of it has no bad text, and the
-- derivation's leaves are, text by text and kind by kind, its significant tokens.
pub record SentenceBy (row : ℕ → Pattern) (source : List ℕ) (t : Tree) (sort : Sort) : Type 0 where
  pub items : List Item
  pub cut : Cut source items
  pub tokens : are_tokens items ≡ true
  pub derivation : DerivationBy row t sort
  pub yield : Yield t ≡ tokens_of items

abbrev pub Sentence : List ℕ → Tree → Sort → Type 0
Sentence = SentenceBy Row

-- The same by the rows of the first profile.
abbrev pub FirstSentence : List ℕ → Tree → Sort → Type 0
FirstSentence = SentenceBy FirstRow

-- The items have no other derivation: each that spells their significant tokens is this tree.
abbrev pub OnlyDerivation : List Item → Tree → Type 0
OnlyDerivation items t = (u : Tree) → Spells (tokens_of items) u document → u ≡ t

-- The derivation nests at most r deep, and the text has at most k items, bad text and the end included.
pub record Within (source : List ℕ) (t : Tree) (r k : ℕ) : Type 0 where
  pub nesting : nest t ≤ r
  pub items : List Item
  pub cut : Cut source items
  pub count : length items ≤ k

-- The text is the beginning of a sentence of the sort: some text after it completes one.
pub record Begins (sort : Sort) (front : List ℕ) : Type 0 where
  pub rest : List ℕ
  pub tree : Tree
  pub characters : IsUtf8 (front ++ rest)
  pub sentence : Sentence (front ++ rest) tree sort

-- The tokens, perhaps closed by the end, are a beginning of the significant tokens, and then the end, of some sentence
-- of the sort, whose derivation nests at most r deep.
pub record StartSentenceWithin (sort : Sort) (r : ℕ) (front : List Terminal) : Type 0 where
  pub source : List ℕ
  pub tree : Tree
  pub rest : List Terminal
  pub characters : IsUtf8 source
  pub sentence : Sentence source tree sort
  pub beginning : terminals (Yield tree) ≡ front ++ rest
  pub nesting : nest tree ≤ r

-- The same of some sentence, however deep it nests.
abbrev pub StartSentence : Sort → List Terminal → Type 0
StartSentence sort front = (r : ℕ) × StartSentenceWithin sort r front
