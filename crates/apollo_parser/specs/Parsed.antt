-- What a parse gives, what its errors are, and what is so after an error: the words of `Promise` that are not in the
-- specs of `lexical_grammar` and `document_grammar`. The standard says nothing of errors, so these are this project's
-- own promises.
use Rattle.std.specs.List.{Any}
use Rattle.std.specs.Prelude.{◌≡◌, ◌⊎◌, ℕ, Bool, true, false, if◌then◌else◌, List, [], ◌∷◌, Some, None, map, ⊤}
use Rattle.lexical_grammar.specs.Answers.{Answer, gives, limit_at, is_end}
use Rattle.lexical_grammar.specs.Cut.{Item}
use Rattle.lexical_grammar.specs.declared.TokenKind.{TokenKind}
use Rattle.document_grammar.specs.Forests.{Forest, none, leaf, node}
use Rattle.document_grammar.specs.Leaves.{ignored}
use Rattle.document_grammar.specs.Numbered.{tree_of}
use Rattle.document_grammar.specs.Recovery.{children_of, LeftOver, Rowed, GoesOn}
use Rattle.parser_rules.specs.Messages.{Text, recursion_limit_message}
use Rattle.apollo_lexer.specs.Diagnostics.{of_text, of_end, of_limit, Subject, Diagnostic}
use Rattle.apollo_lexer.specs.LexErrors.{limit_message}
use Rattle.apollo_lexer.specs.declared.limit.LimitTracker.{LimitTracker}

-- ---- what a parse gives

-- A tree, the errors in the order in which they were found, and how the limits were used. An error has a message, what
-- it is about, which is a text of the source, the end of the source or a limit, and the byte of the source where that
-- begins.
pub record Parsed : Type 0 where
  pub tree : Forest
  pub errors : List Diagnostic
  pub recursion_limit : LimitTracker
  pub token_limit : LimitTracker

-- ---- the errors of limits

-- A limit's error.
abbrev pub IsLimit : Diagnostic → Type 0
IsLimit error = error.subject ≡ of_limit

-- The token limit's error.
pub record IsTokenLimit (error : Diagnostic) : Type 0 where
  pub subject : IsLimit error
  pub message : error.message ≡ limit_message

-- The recursion limit's error.
pub record IsRecursionLimit (error : Diagnostic) : Type 0 where
  pub subject : IsLimit error
  pub message : error.message ≡ recursion_limit_message

-- One of the two messages of limits.
abbrev pub IsLimitMessage : Text → Type 0
IsLimitMessage message = (message ≡ limit_message) ⊎ (message ≡ recursion_limit_message)

-- A limit's error has a limit's message, and no other error has.
pub record IsLimitWorded (error : Diagnostic) : Type 0 where
  pub limit : IsLimit error → IsLimitMessage error.message
  pub other : IsLimitMessage error.message → IsLimit error

-- ---- all errors

-- The error is about this, which begins at this byte.
pub record IsAbout (what : Subject) (offset : ℕ) (error : Diagnostic) : Type 0 where
  pub subject : error.subject ≡ what
  pub index : error.index ≡ offset

-- What an error at this token is about: its text, or the end.
abbrev pub subject_at : TokenKind → Text → Subject
subject_at kind text = if is_end kind then of_end else of_text text

-- The errors of a lexer's answers, in their order. The grammar's errors are taken, or no longer are. Which words tell
-- what is wrong is not stated.
pub data ErrorsAlong : Bool → List Answer → List Diagnostic → Type 0 where
  no_more :
      {taken : Bool}
      → ErrorsAlong taken [] []
  -- bad text has one error, with its text
  bad_text :
      {taken : Bool} {item : Item} {answers : List Answer} {error : Diagnostic} {errors : List Diagnostic}
      → item.kind ≡ None
      → IsAbout (of_text item.text) item.index error
      → ErrorsAlong taken answers errors
      → ErrorsAlong taken (gives item ∷ answers) (error ∷ errors)
  -- the token limit has one where it is met, and none of the grammar's follows
  token_limit :
      {taken : Bool} {index : ℕ} {answers : List Answer} {error : Diagnostic} {errors : List Diagnostic}
      → IsAbout of_limit index error
      → IsTokenLimit error
      → ErrorsAlong false answers errors
      → ErrorsAlong taken (limit_at index ∷ answers) (error ∷ errors)
  -- the grammar's are at significant tokens, with their texts, or at the end
  fault :
      {kind : TokenKind} {item : Item} {answers : List Answer} {error : Diagnostic} {errors : List Diagnostic}
      → item.kind ≡ Some kind
      → ignored kind ≡ None
      → IsAbout (subject_at kind item.text) item.index error
      → ErrorsAlong true (gives item ∷ answers) errors
      → ErrorsAlong true (gives item ∷ answers) (error ∷ errors)
  -- so is the recursion limit's, and none of the grammar's follows
  recursion_limit :
      {kind : TokenKind} {item : Item} {answers : List Answer} {error : Diagnostic} {errors : List Diagnostic}
      → item.kind ≡ Some kind
      → ignored kind ≡ None
      → IsAbout of_limit item.index error
      → IsRecursionLimit error
      → ErrorsAlong false (gives item ∷ answers) errors
      → ErrorsAlong true (gives item ∷ answers) (error ∷ errors)
  -- a token, ignored or not, has no more
  passed :
      {taken : Bool} {kind : TokenKind} {item : Item} {answers : List Answer} {errors : List Diagnostic}
      → item.kind ≡ Some kind
      → ErrorsAlong taken answers errors
      → ErrorsAlong taken (gives item ∷ answers) errors

-- The errors go along the answers.
abbrev pub ErrorsOf : List Answer → List Diagnostic → Type 0
ErrorsOf answers errors = ErrorsAlong true answers errors

-- ---- the first error, and errors at offsets

-- What holds of the first error, if there is one.
abbrev pub OfFirst : (Diagnostic → Type 0) → List Diagnostic → Type 0
OfFirst P [] = ⊤
OfFirst P (error ∷ errors) = P error

-- One of the errors is at the offset, about the text there.
abbrev pub HasError : List Diagnostic → ℕ → Text → Type 0
HasError errors offset text = Any (IsAbout (of_text text) offset) errors

-- ---- after errors

-- The children of the first tree, which is the root.
abbrev pub root_children : Forest → Forest
root_children none = none
root_children (leaf k text rest) = none
root_children (node k kids rest) = kids

-- The parse goes on after its errors; `r` is the recursion limit, and the items are those of the text.
pub record Recovers (r : ℕ) (items : List Item) (t : Parsed) : Type 0 where
  -- each token that was left over has its error, with its offset and its text, and is a child of the root, or of a list
  -- and not `]`, or its node's only one
  pub left_over : LeftOver (HasError t.errors) items 0 (children_of (tree_of t.tree))
  -- each other child of a node but ignored, ERROR and SPREAD leaves is a symbol of its row
  pub row_symbols : Rowed (tree_of t.tree)
  -- where the items after a child of the root have no bad text and are a document of its own, which nests at most r
  -- deep, the later children, without their ignored leaves, are its derivation's, and no error is beyond its first
  -- token
  pub goes_on : GoesOn r items (map (λ (e : Diagnostic). e.index) t.errors) (root_children t.tree)
