-- The language of the parser's rules: what a rule may ask, and what it may do.
use Rattle.std.specs.Prelude.{Option, Bool, not, ◌&&◌, ◌||◌, is_some}
use Rattle.lexical_grammar.specs.declared.TokenKind.{TokenKind}
use Rattle.document_grammar.specs.declared.kind.SyntaxKind.{SyntaxKind}
use Rattle.document_grammar.specs.declared.kind.SyntaxKind.TheVariants as kind
use Rattle.parser_rules.specs.Nodes.{Node, Part}
use Rattle.parser_rules.specs.State.{State, Lexeme, second, bump, note, is_deep, is_at, is_word, is_over}
use Rattle.parser_rules.specs.declared.message.Message.{Message}

-- a question about one token: whether it is of the kind, is the keyword, or one of the two
pub data TokenTest : Type 0 where
  Kind : TokenKind → TokenTest
  Keyword : SyntaxKind → TokenTest
  Or : TokenTest → TokenTest → TokenTest

abbrev pub fits : TokenTest → Option Lexeme → Bool
fits (Kind token_kind) found = is_at token_kind found
fits (Keyword this_kind) found = is_word this_kind found
fits (Or token_test other_test) found = fits token_test found || fits other_test found

pub data Test : Type 0 where
  -- the current token fits
  Here : TokenTest → Test
  -- the next significant token after the current one fits
  Next : TokenTest → Test
  -- a token is left besides the end
  Ready : Test
  -- a significant token or the end follows the current one; else the token limit cuts the text off
  HasNext : Test
  -- the recursion limit is reached
  Deep : Test
  Not : Test → Test
  Both : Test → Test → Test

unfoldable pub holds : Test → State → Bool
holds (Here token_test) state = fits token_test state.current
holds (Next token_test) state = fits token_test (second state.items)
holds Ready state = not (is_over state.current)
holds HasNext state = is_some (second state.items)
holds Deep state = is_deep state
holds (Not test) state = not (holds test state)
holds (Both test other_test) state = holds test state && holds other_test state

abbrev pub At : TokenKind → Test
At token_kind = Here (Kind token_kind)

abbrev pub Word : SyntaxKind → Test
Word this_kind = Here (Keyword this_kind)

pub data Prim : Type 0 where
  -- the current token becomes a leaf of the kind
  Bump : SyntaxKind → Prim
  -- a report at the current token
  Note : Message → Prim

unfoldable pub step : Prim → State → State
step (Bump leaf) state = bump leaf state
step (Note message) state = note message state

pub data Rule : Type 0 where
  Skip : Rule
  Do : Prim → Rule
  Seq : Rule → Rule → Rule
  When : Test → Rule → Rule → Rule
  While : Test → Rule → Rule
  -- a node, with its inside
  Child : Node → Rule
  -- the report that the recursion limit is reached, in a place where it is
  TooDeep : Rule
  -- the first rule one level deeper, and then the second; or the report that the recursion limit is reached
  Nested : Rule → Rule → Rule
  Call : Part → Rule
  -- the rule makes a type; when `!` comes next, the type and the `!` go into a NON_NULL_TYPE
  Typed : Rule → Rule

-- the one and then the other, which goes on at each end of the first
infixr 12 ◌>◌
abbrev pub ◌>◌ : Rule → Rule → Rule
Skip > next_rule = next_rule
Do primitive > next_rule = Seq (Do primitive) next_rule
Seq rule other_rule > next_rule = Seq rule (other_rule > next_rule)
When test rule other_rule > next_rule = When test (rule > next_rule) (other_rule > next_rule)
While test rule > next_rule = Seq (While test rule) next_rule
Child node > next_rule = Seq (Child node) next_rule
TooDeep > next_rule = Seq TooDeep next_rule
Nested rule other_rule > next_rule = Nested rule (other_rule > next_rule)
Call part > next_rule = Seq (Call part) next_rule
Typed rule > next_rule = Seq (Typed rule) next_rule

-- the punctuator, or a report that it is missing
abbrev pub expect : TokenKind → SyntaxKind → Message → Rule
expect token_kind leaf message = When (At token_kind) (Do (Bump leaf)) (Do (Note message))

-- a report where the test fails
abbrev pub want : Test → Message → Rule
want test message = When test Skip (Do (Note message))

-- a report, and the token becomes an ERROR leaf
abbrev pub refuse : Message → Rule
refuse message = Do (Note message) > Do (Bump kind.ERROR)

-- the keyword, or a report that it is missing
abbrev pub expect_word : SyntaxKind → Message → Rule
expect_word this_kind message = When (Word this_kind) (Do (Bump this_kind)) (Do (Note message))

-- what is there only where the current token is of the kind
abbrev pub maybe : TokenKind → Node → Rule
maybe token_kind node = When (At token_kind) (Child node) Skip
