-- What is promised where a part of a document is parsed by itself, and the text after it is left.
use Rattle.std.specs.Prelude.{◌≡◌, ◌≤◌, length, filter, Bool, true, false, Option, Some, None, List, [], ◌∷◌, ◌++◌}
use Rattle.lexical_grammar.specs.Answers.{Answer, gives, limit_at}
use Rattle.lexical_grammar.specs.declared.TokenKind.{TokenKind}
use Rattle.lexical_grammar.specs.declared.TokenKind.TheVariants as token
use Rattle.document_grammar.specs.Forests.{Forest, none, node}
use Rattle.document_grammar.specs.Leaves.{Leaf, OneLeafAnItem, ignored, shows}
use Rattle.document_grammar.specs.declared.kind.SyntaxKind.{SyntaxKind}
use Rattle.document_grammar.specs.declared.kind.SyntaxKind.TheVariants as kind
use Rattle.apollo_lexer.specs.Diagnostics.{Diagnostic}
use Rattle.apollo_parser.specs.Parsed.{ErrorsOf}

-- How far a part goes into the text: one for one the leaves are the items of the front. The errors go along these and
-- what was read after the tree, where at most one token is significant, or the end.
pub record FirstItems (answers : List Answer) (ls : List Leaf) (found : List Diagnostic) : Type 0 where
  pub front : List Answer
  pub ahead : List Answer
  pub back : List Answer
  pub split : answers ≡ front ++ (ahead ++ back)
  pub one_leaf : OneLeafAnItem front ls
  pub errors : ErrorsOf (front ++ ahead) found
  pub few : length (filter shows ahead) ≤ 1

-- ---- types

-- The kind of the first significant token, or of the end. Ignored tokens and bad text are passed over.
abbrev pub first_kind : List Answer → Option TokenKind
first_kind [] = None
first_kind (limit_at index ∷ answers) = first_kind answers
first_kind (gives item ∷ answers) = elim item.kind [
  | None ↦ first_kind answers
  | Some k ↦ elim (ignored k) [
    | Some leaf ↦ first_kind answers
    | None ↦ Some k
  ]
]

-- A type starts with a name or `[`.
abbrev pub starts_type : Option TokenKind → Bool
starts_type (Some token.Name) = true
starts_type (Some token.LBracket) = true
starts_type _ = false

-- What the root is where this token comes first.
pub data IsTypeKind : Option TokenKind → SyntaxKind → Type 0 where
  of_name : IsTypeKind (Some token.Name) kind.NAMED_TYPE
  of_bracket : IsTypeKind (Some token.LBracket) kind.LIST_TYPE
  with_bang : {first : Option TokenKind} → starts_type first ≡ true → IsTypeKind first kind.NON_NULL_TYPE
  -- an ERROR is the root only where no type starts
  no_start : {first : Option TokenKind} → starts_type first ≡ false → IsTypeKind first kind.ERROR

-- The tree is one node: a type, or an ERROR where none starts.
pub record OneType (first : Option TokenKind) (tree : Forest) : Type 0 where
  pub kind : SyntaxKind
  pub kids : Forest
  pub is : tree ≡ node kind kids none
  pub starts : IsTypeKind first kind
