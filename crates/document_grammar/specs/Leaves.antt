-- The leaves of a tree, and the items of a text: a leaf for an item.
use Rattle.std.specs.Prelude.{◌≡◌, ℕ, Bool, false, is_none, List, [], ◌∷◌, ◌++◌, ◌⊎◌, Option, Some, None}
use Rattle.lexical_grammar.specs.Answers.{Answer, gives, limit_at}
use Rattle.lexical_grammar.specs.Cut.{Item}
use Rattle.lexical_grammar.specs.declared.TokenKind.{TokenKind}
use Rattle.lexical_grammar.specs.declared.TokenKind.TheVariants as token
use Rattle.document_grammar.specs.Derivation.{spelled, LeafRule}
use Rattle.document_grammar.specs.Forests.{Forest, none, leaf, node}
use Rattle.document_grammar.specs.Numbers.{number}
use Rattle.document_grammar.specs.Sentence.{leaf_number}
use Rattle.document_grammar.specs.Tree.{Text}
use Rattle.document_grammar.specs.declared.kind.SyntaxKind.{SyntaxKind}
use Rattle.document_grammar.specs.declared.kind.SyntaxKind.TheVariants as kind

-- a leaf: its kind and its text
pub record Leaf : Type 0 where
  pub kind : SyntaxKind
  pub text : Text

-- the leaf that an ignored token becomes
abbrev pub ignored : TokenKind → Option SyntaxKind
ignored token.Whitespace = Some kind.WHITESPACE
ignored token.Comment = Some kind.COMMENT
ignored token.Comma = Some kind.COMMA
ignored _ = None

-- whether the lexer's answer is a significant token, or the end
abbrev pub shows : Answer → Bool
shows (limit_at index) = false
shows (gives item) = elim item.kind [
  | None ↦ false
  | Some k ↦ is_none (ignored k)
]

-- the leaves of a list of trees, from the first to the last
abbrev pub leaves : Forest → List Leaf
leaves none = []
leaves (leaf k text rest) = record { kind = k; text = text } ∷ leaves rest
leaves (node k kids rest) = leaves kids ++ leaves rest

-- a leaf of a kind that belongs to the token kind; a keyword's leaf has its word as text
abbrev pub Belongs : TokenKind → Leaf → Type 0
Belongs k l = (spelled (number l.kind) l.text ≡ (leaf_number k, l.text)) × LeafRule (number l.kind) l.text

abbrev pub IsLeafOfToken : TokenKind → Option SyntaxKind → Leaf → Type 0
IsLeafOfToken k (Some own) l = l.kind ≡ own
IsLeafOfToken k None l = (l.kind ≡ kind.ERROR) ⊎ Belongs k l

-- the kind of leaf that an item becomes: an ignored token its own, bad text ERROR, any other token one that belongs to
-- it, or ERROR
abbrev pub IsLeafOf : Option TokenKind → Leaf → Type 0
IsLeafOf None l = l.kind ≡ kind.ERROR
IsLeafOf (Some k) l = IsLeafOfToken k (ignored k) l

-- One for one and in order: each item is a leaf with its text. The limit has no leaf, and the end may be left out.
pub data OneLeafAnItem : List Answer → List Leaf → Type 0 where
  nothing : OneLeafAnItem [] []
  one : {item : Item} {answers : List Answer} {l : Leaf} {ls : List Leaf} → l.text ≡ item.text → IsLeafOf item.kind l
      → OneLeafAnItem answers ls
      → OneLeafAnItem (gives item ∷ answers) (l ∷ ls)
  the_end : {item : Item} {answers : List Answer} {ls : List Leaf} → item.kind ≡ Some token.Eof
      → OneLeafAnItem answers ls
      → OneLeafAnItem (gives item ∷ answers) ls
  the_limit : {index : ℕ} {answers : List Answer} {ls : List Leaf} → OneLeafAnItem answers ls
      → OneLeafAnItem (limit_at index ∷ answers) ls
