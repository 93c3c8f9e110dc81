-- What one call of a lexer answers to a parser.
use Rattle.std.specs.Prelude.{◌≡◌, ℕ, Bool, true, false, List, [], ◌∷◌, length, Option, Some, None, ⊤}
use Rattle.lexical_grammar.specs.Answers.{Answer, gives, limit_at, IsItemText}
use Rattle.lexical_grammar.specs.declared.TokenKind.TheVariants as token
use Rattle.document_grammar.specs.Builds.{nothing, start, add_leaf, finish}
use Rattle.document_grammar.specs.declared.kind.SyntaxKind.{SyntaxKind}
use Rattle.document_grammar.specs.declared.kind.SyntaxKind.TheVariants as kind
use Rattle.parser_rules.specs.State.{State, Text, Lexeme, is_at, is_word, bad, met, read_on}

-- an answer was taken
abbrev pub Taken : Option Answer → State → State → Type 0
Taken None s t = (s.items ≡ []) × (t ≡ s)
Taken (Some answer) s t = (s.items ≡ answer ∷ t.items) × (t ≡ record s { items = t.items })

-- a token's text is one of its kind
abbrev pub IsAnswerText : Option Answer → Type 0
IsAnswerText None = ⊤
IsAnswerText (Some (limit_at index)) = ⊤
IsAnswerText (Some (gives item)) = IsItemText item.kind item.text

-- the token limit is met, or there is bad text
abbrev pub refused : Bool → Text → ℕ → State → State
refused true text index s = met index s
refused false text index s = bad text index s

-- a leaf more, and no current token
abbrev pub added : SyntaxKind → Text → State → State
added k text s = record s { tree = add_leaf k text s.tree; current = None }

-- a node of one leaf more, and no current token
abbrev pub leaf_node : SyntaxKind → SyntaxKind → Text → State → State
leaf_node node l text s = record s { tree = finish (add_leaf l text (start node s.tree)); current = None }

-- the current token may be this leaf of this node, which has no other
abbrev pub is_leaf_of : SyntaxKind → SyntaxKind → Option Lexeme → Bool
is_leaf_of kind.NAME kind.IDENT now = is_at token.Name now
is_leaf_of kind.INT_VALUE kind.INT now = is_at token.Int now
is_leaf_of kind.STRING_VALUE kind.STRING now = is_at token.StringValue now
is_leaf_of kind.BOOLEAN_VALUE kind.true_KW now = is_word kind.true_KW now
is_leaf_of kind.BOOLEAN_VALUE kind.false_KW now = is_word kind.false_KW now
is_leaf_of _ _ now = false

-- nothing is read or built, and this number of items may be cut
abbrev pub unread : List Answer → ℕ → ℕ → State
unread items limit budget = record {
  items = items;
  current = None;
  pending = [];
  tree = nothing;
  errors = [];
  limit = limit;
  depth = 0;
  high = 0;
  accepts = true;
  asked = length items;
  budget = budget;
}

-- the root is open, and the first token is read
abbrev pub rooted : SyntaxKind → State → State
rooted root s = read_on s.items (record s { tree = start root s.tree })
