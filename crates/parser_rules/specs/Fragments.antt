-- A part of a document that is parsed by itself: its root, and the rules of the root.
use Rattle.std.specs.Prelude.{◌≡◌, ℕ, true, false, List, []}
use Rattle.lexical_grammar.specs.Answers.{Answer}
use Rattle.lexical_grammar.specs.declared.TokenKind.TheVariants as token
use Rattle.document_grammar.specs.Builds.{nothing, built_count}
use Rattle.document_grammar.specs.declared.kind.SyntaxKind.{SyntaxKind}
use Rattle.document_grammar.specs.declared.kind.SyntaxKind.TheVariants as kind
use Rattle.parser_rules.specs.Nodes.{SelectionSet, Selections, ListType, NamedType}
use Rattle.parser_rules.specs.RuleLanguage.{Here, At, holds, Bump, Note, Rule, Skip, Do, When, Nested, Call, ◌>◌}
use Rattle.parser_rules.specs.RuleLanguage.{expect, refuse}
use Rattle.parser_rules.specs.Rules.{type_start, inside, nullable_type}
use Rattle.parser_rules.specs.Runs.{Runs}
use Rattle.parser_rules.specs.State.{State, fresh, read_on, begun, flush, closed, wrapped_from}
use Rattle.parser_rules.specs.declared.message.Message.TheVariants as message

-- the root is open, the first token is read, and what comes before it is in the root
abbrev pub started : List Answer → ℕ → SyntaxKind → State
started items limit root = flush (begun items limit root)

-- the same, where the root is not open yet
abbrev pub unopened : List Answer → ℕ → State
unopened items limit = flush (read_on items (record (fresh items limit kind.ERROR) { tree = nothing }))

-- what waits after the root is left out
abbrev pub left_out : State → State
left_out state = record state { pending = [] }

-- what is between the braces of a SelectionSet (2.4)
abbrev pub unbraced_selections : Rule
unbraced_selections = Nested (Call Selections) Skip

-- SelectionSet (2.4), or what is between its braces
abbrev pub field_set : Rule
field_set = When (At token.LCurly) (inside SelectionSet) unbraced_selections

-- Type (2.11) : the root's rule for each kind of type, and where there is no type. The rule of a list runs at `[` alone.
abbrev pub list_root : Rule
list_root = When (At token.LBracket) (inside ListType) (Nested (Do (Note message.ExpectedFieldType)) Skip)

abbrev pub named_root : Rule
named_root = inside NamedType

abbrev pub non_null_root : Rule
non_null_root = nullable_type > expect token.Bang kind.BANG message.ExpectedFieldType

abbrev pub no_type_root : Rule
no_type_root = refuse message.ExpectedFieldType

-- the kinds and the rules of such roots, by the first token
pub data IsTypeRoot (state : State) : SyntaxKind → Rule → Type 0 where
  a_list : true ≡ holds (At token.LBracket) state → IsTypeRoot state kind.LIST_TYPE list_root
  a_name : true ≡ holds (At token.Name) state → IsTypeRoot state kind.NAMED_TYPE named_root
  not_null : true ≡ holds (Here type_start) state → IsTypeRoot state kind.NON_NULL_TYPE non_null_root
  no_type : false ≡ holds (Here type_start) state → IsTypeRoot state kind.ERROR no_type_root

-- the root opened around all that was built: one of the kind, or where `!` came next a NON_NULL_TYPE around a type of
-- the kind, from the index on, and the `!`
pub data ClosesType (index : ℕ) (this_kind : SyntaxKind) (state after : State) : Type 0 where
  nullable : false ≡ holds (At token.Bang) state → after ≡ wrapped_from 0 this_kind state
      → ClosesType index this_kind state after
  non_null : {later : State} → true ≡ holds (At token.Bang) state
      → Runs (Do (Bump kind.BANG)) (closed (wrapped_from index this_kind state)) later
      → after ≡ wrapped_from 0 kind.NON_NULL_TYPE later → ClosesType index this_kind state after

-- a type's rule ran where no root is open, and the root opened around the trees that were built; or there is no type
pub data RunsTypeRoot (state after : State) : Type 0 where
  makes_list : {later : State} → true ≡ holds (At token.LBracket) state → Runs (inside ListType) state later
      → ClosesType (built_count state.tree) kind.LIST_TYPE later after → RunsTypeRoot state after
  makes_name : {later : State} → false ≡ holds (At token.LBracket) state → true ≡ holds (At token.Name) state
      → Runs (inside NamedType) state later
      → ClosesType (built_count state.tree) kind.NAMED_TYPE later after → RunsTypeRoot state after
  makes_none : {later : State} → false ≡ holds (Here type_start) state → Runs no_type_root state later
      → after ≡ wrapped_from 0 kind.ERROR later
      → RunsTypeRoot state after
