-- The check of the rules against the grammar's machine: each rule is walked along the rows, with sets of classes of the
-- next two tokens. A token that is taken and a node that begins must be the machine's move for all of them; a report
-- must be where the machine is stuck, or where the root ends and tokens are left.
--
-- The parameters have the same names throughout, also in the proofs of `Positions`, `Moves` and `Simulation`:
--   symbol       the symbol of the open node, which is a row of the machine's table
--   state        a state of that row
--   level        whether a level of nesting was entered in the node, or left
--   certainty    what is known of the open nodes beside the state
--   position     where the walk is: `in_row state level certainty`, or `machine_is_stuck`
--   now          a set of classes that has the class of the current token
--   after        a set of classes that has the class of the significant token after it
--   then         the check of the rest, from the position and the sets with which this ends
use Rattle.std.proofs.Common.{ℕ, zero, suc, ◌+◌, ◌^◌, Bool, true, false, not, eqb, ltb, List, [], ◌∷◌, cond, bit_and}
use Rattle.std.proofs.Common.{bit_or}
use Rattle.std.specs.Int.Bits.{bit_xor}
use Rattle.lexical_grammar.specs.declared.TokenKind.TheVariants as token
use Rattle.document_grammar.specs.Booleans.{◌and◌, ◌or◌}
use Rattle.document_grammar.specs.Kinds.{ERROR, SELECTION_SET, LIST_TYPE, DOCUMENT, BANG}
use Rattle.document_grammar.specs.Numbers.{number}
use Rattle.document_grammar.specs.declared.kind.SyntaxKind.TheVariants as kind
use Rattle.grammar_machine.proofs.Checks.{subset, disjoint, exits, all_arcs}
use Rattle.grammar_machine.proofs.Depth.{count_in}
use Rattle.grammar_machine.proofs.Patterns.{label}
use Rattle.grammar_machine.proofs.Sound.{any}
use Rattle.grammar_machine.proofs.Steps.{goes, closes, sticks, misses}
use Rattle.grammar_machine.specs.Machine.{is_leaf, ends, exit, arcs, target}
use Rattle.grammar_machine.specs.Symbols.{TYPE, IDENT_FOR_FRAGMENT, IDENT_FOR_ENUM, NAME_FOR_FRAGMENT, NAME_FOR_ENUM}
use Rattle.grammar_machine.specs.Symbols.{BARE_SELECTIONS}
use Rattle.parser_rules.proofs.lookahead.FirstSets.{without, first_of, second_of, inlined}
use Rattle.parser_rules.proofs.lookahead.Split.{Level, NotEntered, Entered, Left, Certainty, Nothing}
use Rattle.parser_rules.proofs.lookahead.Split.{OpenWhateverFollows, AtLimit, Position, in_row, machine_is_stuck}
use Rattle.parser_rules.proofs.lookahead.Split.{at_start, with_limit_known, divide}
use Rattle.parser_rules.proofs.lookahead.TokenSets.{absent, over, ready, by_near, kind_set}
use Rattle.parser_rules.proofs.runs.Fuel.{rules_deep}
use Rattle.parser_rules.specs.Nodes.{Node, Argument, VariableDefinition, DefaultValue, ListValue, ObjectField}
use Rattle.parser_rules.specs.Nodes.{InputValueDefinition, symbol as symbol_of, kind_of}
use Rattle.parser_rules.specs.RuleLanguage.{Prim, Bump, Note, At, Rule, Skip, Do, Seq, When, While, Child, TooDeep}
use Rattle.parser_rules.specs.RuleLanguage.{Nested, Call, Typed}
use Rattle.parser_rules.specs.Rules.{inside, body}

abbrev pub Then : Type 0
Then = Position → ℕ → ℕ → Bool

-- The machine's classes of a token after the current one: where no token is, the machine sees the end.
abbrev pub absent_as_end : ℕ → ℕ
absent_as_end set = cond (disjoint set (2 ^ absent)) set (bit_or (bit_xor set (bit_and set (2 ^ absent))) 1)

-- ---- levels of nesting

-- how many levels of the open node are entered
abbrev pub level_entered : Level → ℕ
level_entered NotEntered = 0
level_entered Entered = 1
level_entered Left = 0

-- One for the nodes that are counted where they begin, before their level is entered in them; none for the others.
unfoldable pub counts_itself : ℕ → ℕ
counts_itself symbol = cond (eqb symbol SELECTION_SET or (eqb symbol LIST_TYPE or eqb symbol BARE_SELECTIONS)) 1 0

-- how many levels the node counts but has not entered
abbrev pub level_due : ℕ → Level → ℕ
level_due symbol NotEntered = counts_itself symbol
level_due symbol Entered = 0
level_due symbol Left = 0

-- the levels agree where a node of the symbol `child` begins
unfoldable pub levels_agree : ℕ → Level → ℕ → Bool
levels_agree symbol level child =
    eqb (level_entered level + counts_itself child) (counts_itself symbol + count_in symbol child)
    and eqb (level_due symbol level) 0

-- ---- positions

abbrev pub same_level : Level → Level → Bool
same_level NotEntered NotEntered = true
same_level Entered Entered = true
same_level Left Left = true
same_level _ _ = false

abbrev pub same_certainty : Certainty → Certainty → Bool
same_certainty Nothing Nothing = true
same_certainty OpenWhateverFollows OpenWhateverFollows = true
same_certainty AtLimit AtLimit = true
same_certainty _ _ = false

abbrev pub same_position : Position → Position → Bool
same_position (in_row state level certainty) (in_row state' level' certainty') =
    eqb state state' and (same_level level level' and same_certainty certainty certainty')
same_position machine_is_stuck machine_is_stuck = true
same_position _ _ = false

abbrev pub open_whatever_follows : Certainty → Bool
open_whatever_follows certainty = not (same_certainty certainty Nothing)

-- The depth may have changed, so it is no longer known that the limit is reached.
abbrev pub limit_forgotten : Certainty → Certainty
limit_forgotten Nothing = Nothing
limit_forgotten OpenWhateverFollows = OpenWhateverFollows
limit_forgotten AtLimit = OpenWhateverFollows

abbrev pub level_is_entered : Position → Bool
level_is_entered (in_row state level certainty) = same_level level Entered
level_is_entered machine_is_stuck = true

-- the entered level is left
abbrev pub level_left : Position → Position
level_left (in_row state level certainty) = in_row state Left (limit_forgotten certainty)
level_left machine_is_stuck = machine_is_stuck

-- The parent's state moves on by the node's exit.
abbrev pub moved_by : Position → ℕ → Position
moved_by (in_row state level certainty) exit = in_row (state + exit) level certainty
moved_by machine_is_stuck exit = machine_is_stuck

-- ---- loops

-- where a turn of a loop begins
pub record LoopState : Type 0 where
  pub position : Position
  pub now : ℕ
  pub after : ℕ

unfoldable pub covered : Position → ℕ → ℕ → List LoopState → Bool
covered position now after [] = false
covered position now after (one ∷ more) =
    (same_position position one.position and (subset now one.now and subset after one.after))
    or covered position now after more

-- How many turns of a loop a check walks before it gives up. Each begins in a state that no earlier one covers.
abbrev pub most_turns : ℕ
most_turns = 5

-- The check of a loop from a state, where `turn` is the check of one turn with the rest, and of the loop's end. A state
-- that is covered by one that was met before is not looked at again.
unfoldable pub turns : ℕ → (Position → ℕ → ℕ → Then → Bool) → List LoopState → Then
turns zero turn met position now after = covered position now after met
turns (suc left) turn met position now after = elim (covered position now after met) [
  | true ↦ true
  | false ↦ turn position now after (turns left turn (record { position = position; now = now; after = after } ∷ met))
]

-- ---- kinds of nodes

-- what only a root is
abbrev pub only_root : ℕ → Bool
only_root symbol = cond (eqb symbol DOCUMENT) true (eqb symbol BARE_SELECTIONS)

-- the machine's leaf of a name
unfoldable pub leaf_of : ℕ → ℕ → ℕ
leaf_of symbol leaf = cond (eqb symbol NAME_FOR_FRAGMENT) IDENT_FOR_FRAGMENT
    (cond (eqb symbol NAME_FOR_ENUM) IDENT_FOR_ENUM leaf)

-- The end of the text may cut off a node of these without a report: its parent reports it instead.
unfoldable pub may_be_cut_off : Node → Bool
may_be_cut_off (Argument constness) = true
may_be_cut_off VariableDefinition = true
may_be_cut_off DefaultValue = true
may_be_cut_off (ListValue constness) = true
may_be_cut_off (ObjectField constness) = true
may_be_cut_off InputValueDefinition = true
may_be_cut_off _ = false

-- A node of the symbol may lack its block, which it then says to its parent by its exit.
unfoldable pub may_lack_block : ℕ → Bool
may_lack_block symbol = not (exits symbol (λ exit. eqb exit 0))

-- no `{`
abbrev pub no_brace : ℕ
no_brace = without any (kind_set token.LCurly)

-- ---- steps

-- A token becomes a leaf of this kind's number, by the machine's move to the leaf.
unfoldable pub takes_token : ℕ → Position → ℕ → ℕ → ℕ → ℕ → (Position → Bool) → Bool
takes_token symbol (in_row state level certainty) now after kind_number leaf then =
    ((disjoint now 1 and is_leaf leaf) and (eqb (label leaf) kind_number and not (ltb kind_number ERROR)))
    and (goes symbol state now (absent_as_end after) leaf
    and then (in_row (target symbol state leaf) level OpenWhateverFollows))
takes_token symbol machine_is_stuck now after kind_number leaf then = false

-- A report is right here: the machine goes on with nothing, and the node cannot end, or it is the root, and tokens are
-- left.
unfoldable pub may_report : ℕ → Position → ℕ → ℕ → Bool
may_report symbol (in_row state level certainty) now after =
    all_arcs (arcs symbol state) (λ child state'. misses child now (absent_as_end after))
    and (not (ends symbol state) or (only_root symbol and disjoint now 1))
may_report symbol machine_is_stuck now after = true

-- The machine ends the node, at the level where it began, whatever follows the current token.
unfoldable pub ends_at : ℕ → ℕ → Level → Certainty → ℕ → Bool
ends_at symbol state level certainty now =
    ((eqb (level_entered level) 0 and eqb (level_due symbol level) 0) and open_whatever_follows certainty)
    and closes symbol state now any

-- The node leaves nothing for its parent, or that it lacks its block, where no `{` is next.
unfoldable pub exit_is_right : ℕ → ℕ → ℕ → Bool
exit_is_right symbol state now =
    eqb (exit symbol state) 0 or (may_lack_block symbol and (eqb (exit symbol state) 1 and subset now no_brace))

-- ---- children

-- what follows a node that was checked by itself: it has ended with its block, or without, or the end of the text has
-- cut it off
abbrev pub after_node : Position → Node → Then → Bool
after_node position node then =
    (then (moved_by position 0) any any
    and (not (may_lack_block (symbol_of node)) or then (moved_by position 1) no_brace any))
    and (not (may_be_cut_off node) or then machine_is_stuck over any)

-- what follows a node that is walked at its place
unfoldable pub after_inlined : ℕ → Position → Then → Position → ℕ → ℕ → Bool
after_inlined child position then (in_row state level certainty) now after =
    ends_at child state level certainty now and then (moved_by position (exit child state)) now after
after_inlined child position then machine_is_stuck now after = false

-- what follows a node that begins where the machine is stuck
abbrev pub after_stuck_node : Then → Position → ℕ → ℕ → Bool
after_stuck_node then position now after = same_position position machine_is_stuck and then machine_is_stuck now after

-- The machine begins the node, which is walked at its place or was checked by itself.
unfoldable pub child_begins : ℕ → ℕ → Level → ℕ → ℕ → Node → Then → (ℕ → ℕ → Then → Bool) → Bool
child_begins symbol state level now after node then walk =
    let parent : Position = in_row (target symbol state (symbol_of node)) level OpenWhateverFollows in
    (goes symbol state now (absent_as_end after) (symbol_of node) and levels_agree symbol level (symbol_of node))
    and cond (inlined node) (walk now after (after_inlined (symbol_of node) parent then))
    ((subset now (first_of node) and subset after (second_of node)) and after_node parent node then)

-- The machine is stuck before the node.
unfoldable pub child_while_stuck : ℕ → ℕ → ℕ → ℕ → (ℕ → ℕ → Bool) → Bool
child_while_stuck symbol state now after walk_stuck =
    sticks symbol state now (absent_as_end after) and walk_stuck now after

-- A node begins: the tokens that may begin it, and the others.
unfoldable pub child_at : ℕ → Position → ℕ → ℕ → Node → Then → (ℕ → ℕ → Then → Bool) → (ℕ → ℕ → Bool) → Bool
child_at symbol (in_row state level certainty) now after node then walk walk_stuck =
    by_near (λ a b. a and b) true (first_of node) now after (λ u v. child_begins symbol state level u v node then walk)
    (λ u v. child_while_stuck symbol state u v walk_stuck)
child_at symbol machine_is_stuck now after node then walk walk_stuck = walk_stuck now after

-- ---- the recursion limit

-- Each symbol that can come is counted in the node.
abbrev pub all_counted : ℕ → List (ℕ × ℕ) → ℕ → ℕ → Bool
all_counted symbol row now after =
    all_arcs row (λ child state'. misses child now after or (eqb (count_in symbol child) 1 and not (is_leaf child)))

-- What comes next is one level deeper.
abbrev pub goes_deeper : ℕ → ℕ → Level → ℕ → Bool
goes_deeper symbol state level now =
    eqb (level_entered level) 0 and (eqb (counts_itself symbol) 1 or (eqb (counts_itself symbol) 0
    and (all_counted symbol (arcs symbol state) now any and not (ends symbol state))))

-- The limit is reached there, and what comes next is deeper.
unfoldable pub may_report_limit : ℕ → Position → ℕ → Bool
may_report_limit symbol (in_row state level certainty) now =
    same_certainty certainty AtLimit and goes_deeper symbol state level now
may_report_limit symbol machine_is_stuck now = false

unfoldable pub enters_level : Position → (Position → Bool) → Bool
enters_level (in_row state level certainty) then =
    eqb (level_entered level) 0 and then (in_row state Entered (limit_forgotten certainty))
enters_level machine_is_stuck then = false

-- ---- types

-- one child of the type is there
abbrev after_one_child : Position → Bool
after_one_child (in_row state level certainty) = eqb state 1
after_one_child machine_is_stuck = false

-- A `!` ends the type, or what was there before it does. `parent` is the position in the node that holds the type.
abbrev pub bang_follows : Position → Then → Then
bang_follows parent then position now after =
    after_one_child position
    and takes_token TYPE position now after (number kind.BANG) BANG
    (λ position'. after_inlined TYPE parent then position' after any)

abbrev pub no_bang_follows : Position → Then → Then
no_bang_follows parent then position now after =
    after_one_child position and after_inlined TYPE parent then position now after

unfoldable pub after_type : Position → Then → Then
after_type parent then position now after =
    divide (λ a b. a and b) true (At token.Bang) position now after (bang_follows parent then)
    (no_bang_follows parent then)

unfoldable pub type_at : ℕ → Position → ℕ → ℕ → Then → (Then → Bool) → Bool
type_at symbol (in_row state level certainty) now after then walk =
    (goes symbol state now (absent_as_end after) TYPE and (levels_agree symbol level TYPE and not (eqb symbol TYPE)))
    and walk (after_type (in_row (target symbol state TYPE) level OpenWhateverFollows) then)
type_at symbol machine_is_stuck now after then walk = false

-- ---- the check

-- `keeps_to_table fuel symbol position now after rule then`: from this position in a node of the symbol, with the next
-- two tokens of these classes, each run of the rule keeps to the machine and ends where `then` holds, or reports where
-- the machine is stuck. `fuel` is how many rules deep the walk may still go: a call takes one, and so does a child.
unfoldable pub keeps_to_table : ℕ → ℕ → Position → ℕ → ℕ → Rule → Then → Bool
keeps_to_table fuel symbol position now after Skip then = then position now after
-- a token is taken: its successor becomes the current one, and nothing is known of the tokens after that
keeps_to_table fuel symbol position now after (Do (Bump leaf)) then =
    takes_token symbol position now after (number leaf) (leaf_of symbol (number leaf))
    (λ position'. then position' after any)
-- what follows a first report is not looked at
keeps_to_table fuel symbol position now after (Do (Note message)) then = may_report symbol position now after
keeps_to_table fuel symbol position now after TooDeep then = may_report_limit symbol position now
keeps_to_table fuel symbol position now after (Seq first second) then =
    keeps_to_table fuel symbol position now after first (λ p x y. keeps_to_table fuel symbol p x y second then)
-- a test splits the sets: those for which it passes go on with one rule, those for which it fails with the other
keeps_to_table fuel symbol position now after (When test passed failed) then =
    divide (λ a b. a and b) true test position now after (λ p x y. keeps_to_table fuel symbol p x y passed then)
    (λ p x y. keeps_to_table fuel symbol p x y failed then)
keeps_to_table fuel symbol position now after (While test rule) then =
    turns most_turns (λ p x y next. divide (λ a b. a and b) true test p x y
    (λ p' x' y'. keeps_to_table fuel symbol p' x' y' rule next) then) [] position now
    after
-- the child's own rule is walked here only where the child is inlined, or where the machine is stuck before it
keeps_to_table zero symbol position now after (Child node) then = false
keeps_to_table (suc fuel) symbol position now after (Child node) then =
    child_at symbol position now after node then
    (λ x y then'. keeps_to_table fuel (symbol_of node) at_start x y (inside node) then')
    (λ x y. keeps_to_table fuel symbol machine_is_stuck x y (inside node) (after_stuck_node then))
-- where the limit is reached, it is reported; elsewhere a level is entered for the first rule, and left before the
-- second one
keeps_to_table fuel symbol position now after (Nested within later) then =
    may_report_limit symbol (with_limit_known position) now
    and enters_level position (λ p. keeps_to_table fuel symbol p now after within
    (λ p' x y. level_is_entered p' and keeps_to_table fuel symbol (level_left p') x y later then))
keeps_to_table zero symbol position now after (Call part) then = false
keeps_to_table (suc fuel) symbol position now after (Call part) then =
    keeps_to_table fuel symbol position now after (body part) then
-- a type is a node of the machine alone, until a `!` is seen
keeps_to_table fuel symbol position now after (Typed rule) then = type_at symbol position now after then
    (λ then'. keeps_to_table fuel TYPE at_start now after rule then')

-- ---- nodes, and the document

-- The node is not a leaf, a type or a kind of roots alone, and its symbol's kind is its own.
unfoldable pub is_node : Node → Bool
is_node node = not (is_leaf (symbol_of node)) and (not (eqb (symbol_of node) TYPE)
    and (not (only_root (symbol_of node)) and (eqb (label (symbol_of node)) (number (kind_of node)))))

-- a node's rule ends
unfoldable pub node_may_end : Node → Position → ℕ → ℕ → Bool
node_may_end node (in_row state level certainty) now after =
    (ends_at (symbol_of node) state level certainty now and exit_is_right (symbol_of node) state now)
    or (may_be_cut_off node and (subset now over and sticks (symbol_of node) state now (absent_as_end after)))
node_may_end node machine_is_stuck now after = may_be_cut_off node and subset now over

-- the check of one kind of node, with so much fuel
unfoldable pub follows_table : ℕ → Node → Bool
follows_table fuel node =
    is_node node and keeps_to_table fuel (symbol_of node) at_start (first_of node) (second_of node)
    (inside node) (node_may_end node)

unfoldable pub document_may_end : Position → ℕ → ℕ → Bool
document_may_end (in_row state level certainty) now after =
    (closes DOCUMENT state now (absent_as_end after) and subset now over)
    and eqb (level_entered level) 0
document_may_end machine_is_stuck now after = false

-- a part of a document ends, whatever follows it
unfoldable pub part_may_end : ℕ → Then
part_may_end symbol (in_row state level certainty) now after = closes symbol state now (absent_as_end after)
    and (eqb (level_entered level) 0 and eqb (level_due symbol level) 0)
part_may_end symbol machine_is_stuck now after = false

-- the check of the whole
unfoldable pub document_follows : Rule → Bool
document_follows rule = keeps_to_table rules_deep DOCUMENT at_start any any rule document_may_end

-- the check of the document's loop, from any turn on
unfoldable pub turns_follow : Rule → Bool
turns_follow rule = keeps_to_table rules_deep DOCUMENT at_start ready any rule document_may_end
