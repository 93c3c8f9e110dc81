-- The machine that reads a list of significant tokens by the rows, with two tokens of lookahead.
use Rattle.std.specs.Int.{bit_at}
use Rattle.std.specs.Prelude.{◌≡◌, ℕ, ◌+◌, ◌-◌, Bool, true, false, cond, eqb, ltb, List, [], ◌∷◌, ◌++◌, get_or, IsTrue}
use Rattle.std.specs.Prelude.{IsFalse}
use Rattle.document_grammar.specs.Booleans.{◌and◌, ◌or◌}
use Rattle.document_grammar.specs.Derivation.{Sort, document, selections, type}
use Rattle.document_grammar.specs.Kinds.{ERROR, L_CURLY, IDENT, words, SELECTION_SET, DOCUMENT}
use Rattle.document_grammar.specs.Tree.{Text, Token, Tree, leaf, node, Forest, none, ◌▸◌, ◌+++◌, root}
use Rattle.grammar_machine.specs.Symbols.{TYPE, BARE_SELECTIONS}
use Rattle.grammar_machine.specs.Table.{State, state, Entry, entry, rows, firsts, name_leaves, token_kinds}

-- Sets of classes are numbers: bit `a` says that the class `a` is in it.
unfoldable pub holds : ℕ → ℕ → Bool
holds a set = eqb (bit_at set a) 1

-- Leaves have the numbers before DOCUMENT.
unfoldable pub is_leaf : ℕ → Bool
is_leaf symbol = ltb symbol DOCUMENT

-- The rows.
abbrev pub dead : State
dead = state false 0 []

unfoldable pub at : ℕ → ℕ → State
at symbol row_state = get_or (get_or rows (symbol - DOCUMENT) []) row_state dead

abbrev pub state_ends : State → Bool
state_ends (state e x a) = e

abbrev pub state_exit : State → ℕ
state_exit (state e x a) = x

abbrev pub state_arcs : State → List (ℕ × ℕ)
state_arcs (state e x a) = a

unfoldable pub ends : ℕ → ℕ → Bool
unfolding at
ends symbol row_state = state_ends (at symbol row_state)

unfoldable pub exit : ℕ → ℕ → ℕ
unfolding at
exit symbol row_state = state_exit (at symbol row_state)

unfoldable pub arcs : ℕ → ℕ → List (ℕ × ℕ)
unfolding at
arcs symbol row_state = state_arcs (at symbol row_state)

abbrev pub has_in : List (ℕ × ℕ) → ℕ → Bool
has_in [] child = false
has_in (a ∷ more) child = eqb a.0 child or has_in more child

abbrev pub target_in : List (ℕ × ℕ) → ℕ → ℕ
target_in [] child = 0
target_in (a ∷ more) child = cond (eqb a.0 child) a.1 (target_in more child)

unfoldable pub has : ℕ → ℕ → ℕ → Bool
unfolding arcs
has symbol row_state child = has_in (arcs symbol row_state) child

unfoldable pub target : ℕ → ℕ → ℕ → ℕ
unfolding arcs
target symbol row_state child = target_in (arcs symbol row_state) child

unfoldable pub entries : ℕ → List Entry
entries symbol = get_or firsts symbol []

abbrev pub fires_in : List Entry → ℕ → ℕ → Bool
fires_in [] near far = false
fires_in (entry x y alone ∷ more) near far = (holds near x and (alone or holds far y)) or fires_in more near far

unfoldable pub fires : ℕ → ℕ → ℕ → Bool
unfolding entries
fires symbol near far = fires_in (entries symbol) near far

pub data Move : Type 0 where
  go : ℕ → Move
  close : Move
  stuck : Move

abbrev pub choose : List (ℕ × ℕ) → Bool → ℕ → ℕ → Move
choose [] e near far = cond e close stuck
choose (arc ∷ more) e near far = cond (fires arc.0 near far) (go arc.0) (choose more e near far)

-- What to do in state `row_state` of the row of `symbol`, before tokens of the classes `near` and `far`.
unfoldable pub move : ℕ → ℕ → ℕ → ℕ → Move
unfolding arcs ends
move symbol row_state near far = choose (arcs symbol row_state) (ends symbol row_state) near far

-- Classes of tokens: a Name that is a word has the word's class, another Name the class of IDENT, any other token its
-- kind's. The end has class 0.
abbrev pub text_eq : Text → Text → Bool
text_eq [] [] = true
text_eq [] (b ∷ bs) = false
text_eq (a ∷ as') [] = false
text_eq (a ∷ as') (b ∷ bs) = eqb a b and text_eq as' bs

abbrev pub word_class : List (ℕ × Text) → Text → ℕ
word_class [] text = IDENT
word_class (w ∷ more) text = cond (text_eq w.1 text) w.0 (word_class more text)

unfoldable pub class : Token → ℕ
class this_token = cond (eqb this_token.0 IDENT) (word_class words this_token.1)
    (cond (holds this_token.0 token_kinds) this_token.0 ERROR)

-- The classes of the next token and of the one after it, 0 at the end.
unfoldable pub first : List Token → ℕ
first [] = 0
first (this_token ∷ rest) = class this_token

unfoldable pub second : List Token → ℕ
second [] = 0
second (this_token ∷ rest) = first rest

-- The token that a leaf spells.
unfoldable pub token : ℕ → Text → Token
token leaf_symbol text = (cond (holds leaf_symbol name_leaves) IDENT leaf_symbol, text)

abbrev mutual
  pub yield : Tree → List Token
  yield (leaf leaf_symbol text) = token leaf_symbol text ∷ []
  yield (node symbol forest) = yields forest

  pub yields : Forest → List Token
  yields none = []
  yields (tree ▸ forest) = yield tree ++ yields forest

-- What a tree adds to its parent's state: 1 when it lacks its brace block, else 0.
abbrev mutual
  pub finish : Tree → ℕ
  finish (leaf leaf_symbol text) = 0
  finish (node symbol forest) = exit symbol (walk symbol 0 forest)

  pub walk : ℕ → ℕ → Forest → ℕ
  walk symbol row_state none = row_state
  walk symbol row_state (tree ▸ forest) = walk symbol (target symbol row_state (root tree) + finish tree) forest

abbrev pub after : ℕ → ℕ → Tree → ℕ
after symbol row_state tree = target symbol row_state (root tree) + finish tree

-- The symbol with which a parse of the sort begins, before a token of the class `near`: a selection set without braces
-- is one of its own.
abbrev pub opening : Sort → ℕ → ℕ
opening document near = DOCUMENT
opening selections near = cond (eqb near L_CURLY) SELECTION_SET BARE_SELECTIONS
opening type near = TYPE

-- Trees that fit the rows.
abbrev mutual
  pub Ok : Tree → Type 0
  Ok (leaf leaf_symbol text) =
      IsTrue (is_leaf leaf_symbol) × IsTrue (fires leaf_symbol (class (token leaf_symbol text)) 0)
  Ok (node symbol forest) = IsFalse (is_leaf symbol) × OkFrom symbol 0 forest

  -- The list of trees leads from state `row_state` of the row of `symbol` to a state where the row may end.
  pub OkFrom : ℕ → ℕ → Forest → Type 0
  OkFrom symbol row_state none = IsTrue (ends symbol row_state)
  OkFrom symbol row_state (tree ▸ forest) = IsTrue (has symbol row_state (root tree)) × Ok tree
      × OkFrom symbol (target symbol row_state (root tree) + finish tree) forest

abbrev pub Path : ℕ → ℕ → Forest → ℕ → Type 0
Path symbol row_state none end_state = row_state ≡ end_state
Path symbol row_state (tree ▸ forest) end_state = IsTrue (has symbol row_state (root tree)) × Ok tree
    × Path symbol (target symbol row_state (root tree) + finish tree) forest end_state

-- Trees that the machine makes: `Run tree rest` where the tokens after the tree are `rest`.
abbrev mutual
  pub Run : Tree → List Token → Type 0
  Run (leaf leaf_symbol text) rest = IsTrue (is_leaf leaf_symbol)
  Run (node symbol forest) rest = IsFalse (is_leaf symbol) × RunFrom symbol 0 forest rest

  pub RunFrom : ℕ → ℕ → Forest → List Token → Type 0
  RunFrom symbol row_state none rest = move symbol row_state (first rest) (second rest) ≡ close
  RunFrom symbol row_state (tree ▸ forest) rest =
      (move symbol row_state (first (yields (tree ▸ forest) ++ rest)) (second (yields (tree ▸ forest) ++ rest))
      ≡ go (root tree))
      × Run tree (yields forest ++ rest)
      × RunFrom symbol (target symbol row_state (root tree) + finish tree) forest rest

-- The machine's configurations: the open nodes, innermost first, each with its symbol, its state and its closed
-- children.
pub data Frame : Type 0 where
  frame : ℕ → ℕ → Forest → Frame

-- `Reach symbol tokens fs rest`: from the symbol `symbol` before the tokens `tokens`, the machine reaches the open
-- nodes `fs` before the tokens `rest`.
pub data Reach (start_symbol : ℕ) (tokens : List Token) : List Frame → List Token → Type 0 where
  start : Reach start_symbol tokens (frame start_symbol 0 none ∷ []) tokens
  shift : {symbol row_state leaf_symbol : ℕ} {forest : Forest} {fs : List Frame}
      {this_token : Token} {rest : List Token}
      → Reach start_symbol tokens (frame symbol row_state forest ∷ fs) (this_token ∷ rest)
      → move symbol row_state (first (this_token ∷ rest)) (second (this_token ∷ rest)) ≡ go leaf_symbol
      → IsTrue (is_leaf leaf_symbol)
      → Reach start_symbol tokens
      (frame symbol (target symbol row_state leaf_symbol) (forest +++ (leaf leaf_symbol this_token.1 ▸ none)) ∷ fs) rest
  open' : {symbol row_state child : ℕ} {forest : Forest} {fs : List Frame} {rest : List Token}
      → Reach start_symbol tokens (frame symbol row_state forest ∷ fs) rest
      → move symbol row_state (first rest) (second rest) ≡ go child
      → IsFalse (is_leaf child)
      → Reach start_symbol tokens (frame child 0 none ∷ frame symbol row_state forest ∷ fs) rest
  closed : {symbol row_state child child_state : ℕ} {forest more_trees : Forest} {fs : List Frame} {rest : List Token}
      → Reach start_symbol tokens (frame child child_state more_trees ∷ frame symbol row_state forest ∷ fs) rest
      → move child child_state (first rest) (second rest) ≡ close
      → Reach start_symbol tokens
      (frame symbol (target symbol row_state child + exit child child_state) (forest +++ (node child more_trees ▸ none))
      ∷ fs) rest

-- The machine has read the tokens `before`, from the start symbol of the sort, and is in these open nodes before the
-- tokens `rest`.
abbrev pub Reached : Sort → List Token → List Token → List Frame → Type 0
Reached sort before rest frames = Reach (opening sort (first (before ++ rest))) (before ++ rest) frames rest

-- It is stuck there: it has no move before the next two tokens.
pub record IsStuck (sort : Sort) (before rest : List Token) : Type 0 where
  pub symbol : ℕ
  pub state : ℕ
  pub children : Forest
  pub above : List Frame
  pub reached : Reached sort before rest (frame symbol state children ∷ above)
  pub no_move : move symbol state (first rest) (second rest) ≡ stuck
