-- What a parser has read and built, and its steps.
use Rattle.std.specs.Prelude.{ℕ, ◌+◌, ◌-◌, max, min, Bool, true, false, nat_le, ◌&&◌, eqb, if◌then◌else◌, List, [], ◌∷◌}
use Rattle.std.specs.Prelude.{◌++◌, length, Option, Some, None, ⊤}
use denote.Enum.Bare.{sameb}
use Rattle.lexical_grammar.specs.contracts.TokenKind.{the_type}
use Rattle.lexical_grammar.specs.declared.TokenKind.{TokenKind}
use Rattle.lexical_grammar.specs.declared.TokenKind.TheVariants as token
use Rattle.lexical_grammar.specs.Cut.{Item}
use Rattle.lexical_grammar.specs.Answers.{Answer, gives, limit_at, is_end, IsTokenText, usize_max}
use Rattle.document_grammar.specs.declared.kind.SyntaxKind.{SyntaxKind}
use Rattle.document_grammar.specs.declared.kind.SyntaxKind.TheVariants as kind
use Rattle.document_grammar.specs.Kinds.{words}
use Rattle.document_grammar.specs.Numbers.{number}
use Rattle.grammar_machine.specs.Machine.{word_class}
use Rattle.document_grammar.specs.Forests.{Forest}
-- an ignored token or bad text waits for the next leaf, as the leaf that it becomes
pub use Rattle.document_grammar.specs.Leaves.{Leaf as PendingToken, ignored}
use Rattle.document_grammar.specs.Builds.{Building, nothing, start, add_leaf, finish, wrap}
use Rattle.parser_rules.specs.declared.message.Message.{Message}
pub use Rattle.parser_rules.specs.Messages.{Text, Found, at_text, at_end, at_limit}
use Rattle.parser_rules.specs.Messages.{message_text, recursion_limit_message}

-- a significant token, or the end
pub record Lexeme : Type 0 where
  pub kind : TokenKind
  pub text : Text
  pub index : ℕ

-- what is found wrong, the byte where it begins, and the report's message; the lexer words bad text and the token limit
-- itself
pub record Report : Type 0 where
  pub found : Found
  pub index : ℕ
  pub message : Option Text

-- ---- the reports

-- of bad text
abbrev pub bad_report : Text → ℕ → Report
bad_report text index = record { found = at_text text; index = index; message = None }

-- of the token limit
abbrev pub token_limit_report : ℕ → Report
token_limit_report index = record { found = at_limit; index = index; message = None }

-- of the recursion limit, at this token
abbrev pub recursion_limit_report : Lexeme → Report
recursion_limit_report this_lexeme =
    record { found = at_limit; index = this_lexeme.index; message = Some recursion_limit_message }

abbrev pub found_at : Lexeme → Found
found_at this_lexeme = if is_end this_lexeme.kind then at_end else at_text this_lexeme.text

-- of the grammar, at this token
abbrev pub fault_report : Message → Lexeme → Report
fault_report this_message this_lexeme = record {
  found = found_at this_lexeme;
  index = this_lexeme.index;
  message = Some (message_text this_message (found_at this_lexeme));
}

-- the answers that are left, the current token, what waits, what is built, the reports, the recursion limit with its
-- count and the greatest count that was tried, whether the grammar's reports are still taken, how many answers there
-- are in all, and how many items may be cut, by the reader and by copies that look ahead
pub record State : Type 0 where
  pub items : List Answer
  pub current : Option Lexeme
  pub pending : List PendingToken
  pub tree : Building
  pub errors : List Report
  pub limit : ℕ
  pub depth : ℕ
  pub high : ℕ
  pub accepts : Bool
  pub asked : ℕ
  pub budget : ℕ

-- `==` on kinds
unfoldable pub same_kind : TokenKind → TokenKind → Bool
same_kind = sameb the_type

-- the current token's text is one of its kind
abbrev pub IsNow : Option Lexeme → Type 0
IsNow None = ⊤
IsNow (Some t) = IsTokenText t.kind t.text

-- ---- reading

abbrev pub wait : SyntaxKind → Text → State → State
wait this_kind text state = record state { pending = state.pending ++ record { kind = this_kind; text = text } ∷ [] }

-- bad text, which waits for the next leaf
abbrev pub bad : Text → ℕ → State → State
bad text index state = wait kind.ERROR text (record state { errors = state.errors ++ bad_report text index ∷ [] })

-- the token limit
abbrev pub met : ℕ → State → State
met index state = record state { errors = state.errors ++ token_limit_report index ∷ []; accepts = false }

abbrev pub lexeme : TokenKind → Item → Lexeme
lexeme token_kind item = record { kind = token_kind; text = item.text; index = item.index }

-- reads up to the next token that is not ignored
unfoldable pub read_on : List Answer → State → State
read_on [] state = record state { current = None }
read_on (limit_at index ∷ rest) state = read_on rest (met index (record state { items = rest }))
read_on (gives item ∷ rest) state = elim item.kind [
  | None ↦ read_on rest (bad item.text item.index (record state { items = rest }))
  | Some k ↦ elim (ignored k) [
    | Some leaf ↦ read_on rest (wait leaf item.text (record state { items = rest }))
    | None ↦ record state { items = rest; current = Some (lexeme k item) }
  ]
]

-- the significant token after the current one, as a copy of the reader finds it
unfoldable pub second : List Answer → Option Lexeme
second [] = None
second (limit_at index ∷ rest) = second rest
second (gives item ∷ rest) = elim item.kind [
  | None ↦ second rest
  | Some k ↦ elim (ignored k) [
    | Some leaf ↦ second rest
    | None ↦ Some (lexeme k item)
  ]
]

-- ---- building

abbrev pub add_all : List PendingToken → Building → Building
add_all [] building = building
add_all (part ∷ parts) building = add_all parts (add_leaf part.kind part.text building)

-- what waits goes into the tree
unfoldable pub flush : State → State
flush state = record state { tree = add_all state.pending state.tree; pending = [] }

unfoldable pub opened : SyntaxKind → State → State
opened this_kind state = let f = flush state in record f { tree = start this_kind f.tree }

unfoldable pub closed : State → State
closed state = record state { tree = finish state.tree }

-- what was added to the open node since the index is moved into a new node, which is open
unfoldable pub wrapped_from : ℕ → SyntaxKind → State → State
wrapped_from index this_kind state = record state { tree = wrap index this_kind state.tree }

-- moves the current token into the tree after the waiting leaves, and reads on; where there is none, nothing happens
abbrev pub moved : SyntaxKind → State → Option Lexeme → State
moved leaf state None = state
moved leaf state (Some t) = let f = flush state in read_on f.items (record f { tree = add_leaf leaf t.text f.tree })

unfoldable pub bump : SyntaxKind → State → State
bump leaf state = moved leaf state state.current

-- ---- reporting

-- a report is added, but none after a limit error
abbrev pub reported : Report → State → State
reported report state = if state.accepts then record state { errors = state.errors ++ report ∷ [] } else state

abbrev pub noted : Message → State → Option Lexeme → State
noted message state None = state
noted message state (Some t) = reported (fault_report message t) state

-- a report at the current token
unfoldable pub note : Message → State → State
note message state = noted message state state.current

-- ---- nesting

-- the recursion limit is reached
unfoldable pub is_deep : State → Bool
is_deep state = nat_le state.limit state.depth

unfoldable pub enter : State → State
enter state = record state { depth = state.depth + 1; high = max state.high (state.depth + 1) }

unfoldable pub leave : State → State
leave state = record state { depth = state.depth - 1 }

-- one level more was tried
abbrev pub deepened : State → State
deepened state = record state { high = max state.high (min (state.depth + 1) usize_max) }

abbrev pub limited_at : State → Option Lexeme → State
limited_at state None = state
limited_at state (Some t) = record (reported (recursion_limit_report t) state) { accepts = false }

-- the report of the recursion limit at the current token; the grammar's later reports are dropped
unfoldable pub too_deep : State → State
too_deep state = limited_at (deepened state) state.current

-- ---- tests

abbrev pub is_at : TokenKind → Option Lexeme → Bool
is_at token_kind None = false
is_at token_kind (Some t) = same_kind t.kind token_kind

-- the current token is a Name with the keyword's word as text
abbrev pub is_word : SyntaxKind → Option Lexeme → Bool
is_word this_kind None = false
is_word this_kind (Some t) = same_kind t.kind token.Name && eqb (word_class words t.text) (number this_kind)

-- no token is left but the end
abbrev pub is_over : Option Lexeme → Bool
is_over None = true
is_over (Some t) = is_end t.kind

-- ---- the whole

-- the root is open, and nothing is read
abbrev pub fresh : List Answer → ℕ → SyntaxKind → State
fresh items limit root = record {
  items = items;
  current = None;
  pending = [];
  tree = start root nothing;
  errors = [];
  limit = limit;
  depth = 0;
  high = 0;
  accepts = true;
  asked = length items;
  budget = 0;
}

-- the root is open, and the first token is read
abbrev pub begun : List Answer → ℕ → SyntaxKind → State
begun items limit root = read_on items (fresh items limit root)

-- the tree, where all that waits is taken in and the root is closed
abbrev pub finished : State → Forest
finished state = (finish (add_all state.pending state.tree)).here
