-- A relation between states that holds along each step holds along each run.
use Rattle.std.proofs.Common.{◌≡◌, refl, sym, subst, true, false, if◌then◌else◌, Option, Some, None, List, [], ◌∷◌}
use Rattle.std.proofs.Common.{◌++◌, ◌+◌, ◌≤◌, min, arith}
use Rattle.std.proofs.lemmas.Bool.{leb-true}
use Rattle.lexical_grammar.specs.Answers.{Answer, usize_max}
use Rattle.document_grammar.specs.Builds.{start, add_leaf, built_count}
use Rattle.document_grammar.specs.declared.kind.SyntaxKind.{SyntaxKind}
use Rattle.document_grammar.specs.declared.kind.SyntaxKind.TheVariants as kind
use Rattle.parser_rules.specs.Nodes.{kind_of}
use Rattle.parser_rules.specs.RuleLanguage.{Test, Prim, Bump, Note, step, Rule}
use Rattle.parser_rules.specs.Runs.{Runs, skip, does, seq, yes, no, done, again, child, limited, deeper, refused, call}
use Rattle.parser_rules.specs.Runs.{plain, wrapped, Turns, begin, turn}
use Rattle.parser_rules.specs.State.{State, Lexeme, read_on, flush, opened, closed, wrapped_from, moved, bump, noted}
use Rattle.parser_rules.specs.State.{note, fault_report, recursion_limit_report, is_deep, enter, leave, deepened}
use Rattle.parser_rules.specs.State.{limited_at, too_deep}
use Rattle.parser_rules.specs.declared.message.Message.{Message}

-- the highest nesting is one level more than the limit
abbrev pub PastLimit : State → Type 0
PastLimit state = min (state.limit + 1) usize_max ≤ state.high

pub past-limit : (state : State) → true ≡ is_deep state → PastLimit (deepened state)
unfolding is_deep
past-limit state q = let d = leb-true state.limit state.depth (sym q) in omega (arith, d)

pub record Holds_along (R : State → State → Type 0) : Type 0 where
  pub same : (state : State) → R state state
  pub next : (state after later : State) → R state after → R after later → R state later
  -- what waits goes into the tree
  pub flushes : (state : State) → R state (flush state)
  -- the current token goes into the tree after the waiting leaves, and the next one is read
  pub moves : (leaf : SyntaxKind) (lexeme : Lexeme) (state : State) → state.current ≡ Some lexeme → state.pending ≡ []
      → R state (read_on state.items (record state { tree = add_leaf leaf lexeme.text state.tree }))
  -- a report of the grammar at the current token, and the recursion limit's, after which none is taken; the highest
  -- nesting is more than the limit
  pub reports : (message : Message) (lexeme : Lexeme) (state : State) → state.current ≡ Some lexeme
      → state.accepts ≡ true
      → R state (record state { errors = state.errors ++ fault_report message lexeme ∷ [] })
  pub limits : (lexeme : Lexeme) (state : State) → state.current ≡ Some lexeme → state.accepts ≡ true → PastLimit state
      → R state (record state { errors = state.errors ++ recursion_limit_report lexeme ∷ []; accepts = false })
  pub asks : (state : State) → R state (deepened state)
  pub nodes : (this_kind : SyntaxKind) (state later : State)
      → R (record state { tree = start this_kind state.tree }) later → R state (closed later)
  pub levels : (state later : State) → false ≡ is_deep state → R (enter state) later → R state (leave later)
  pub wraps : (this_kind : SyntaxKind) (after later end_state : State) → R after later
      → R (wrapped_from (built_count after.tree) this_kind later) end_state
      → R after (closed end_state)

module _ {R : State → State → Type 0} (holds_along : Holds_along R) where
  moved-along : (leaf : SyntaxKind) (state : State) (found : Option Lexeme) → state.current ≡ found
      → R state (moved leaf state found)
  unfolding flush
  moved-along leaf state None e = holds_along.same state
  moved-along leaf state (Some x) e =
      holds_along.next state (flush state) (moved leaf state (Some x)) (holds_along.flushes state)
      (holds_along.moves leaf x (flush state) e refl)

  noted-along : (message : Message) (state : State) (found : Option Lexeme) → state.current ≡ found
      → R state (noted message state found)
  noted-along message state None e = holds_along.same state
  noted-along message state (Some x) e = (elim state.accepts as (λ b. state.accepts ≡ b
      → R state (if b then record state { errors = state.errors ++ fault_report message x ∷ [] } else state)) [
        | true ↦ λ a. holds_along.reports message x state e a
        | false ↦ λ a. holds_along.same state
      ]) refl

  limited-along : (state : State) (found : Option Lexeme) → state.current ≡ found → PastLimit state
      → R state (limited_at state found)
  limited-along state None e past_limit = holds_along.same state
  limited-along state (Some x) e past_limit = (elim state.accepts as (λ b. state.accepts ≡ b
      → R state (record (if b then record state { errors = state.errors ++ recursion_limit_report x ∷ [] } else state)
      { accepts = false })) [
        | true ↦ λ a. holds_along.limits x state e a past_limit
        | false ↦ λ a. subst (λ b. R state (record state { accepts = b })) a (holds_along.same state)
      ]) refl

  pub too_deep-along : (state : State) → true ≡ is_deep state → R state (too_deep state)
  unfolding too_deep
  too_deep-along state q = holds_along.next state (deepened state) (too_deep state) (holds_along.asks state)
      (limited-along (deepened state) state.current refl (past-limit state q))

  pub step-along : (primitive : Prim) (state : State) → R state (step primitive state)
  unfolding step bump note
  step-along (Bump leaf) state = moved-along leaf state state.current refl
  step-along (Note message) state = noted-along message state state.current refl

  node-along : (this_kind : SyntaxKind) (state later : State) → R (opened this_kind state) later
      → R state (closed later)
  unfolding opened
  node-along this_kind state later h = holds_along.next state (flush state) (closed later) (holds_along.flushes state)
      (holds_along.nodes this_kind (flush state) later h)

  pub along : {rule : Rule} {state after : State} → Runs rule state after → R state after
  along {state = state} skip = holds_along.same state
  along {state = state} (does {primitive = primitive} e) = subst (R state) (sym e) (step-along primitive state)
  along {state = state} (seq {after = after} {later = later} run second_run) =
      holds_along.next state after later (along run) (along second_run)
  along (yes q run) = along run
  along (no q run) = along run
  along {state = state} (done q) = holds_along.same state
  along {state = state} (again {after = after} {later = later} q run second_run) =
      holds_along.next state after later (along run) (along second_run)
  along {state = state} (child {node = node} {after = after} {later = later} e k run) =
      subst (R state) (sym k) (node-along (kind_of node) state later (subst (λ w. R w later) e (along run)))
  along {state = state} (deeper {after = after} {later = later} {last = last} {end_state = end_state} q e k
      run second_run) =
      holds_along.next state last end_state
      (subst (R state) (sym k) (holds_along.levels state later q (subst (λ x. R x later) e (along run))))
      (along second_run)
  along {state = state} (limited q e) = subst (R state) (sym e) (too_deep-along state q)
  along {state = state} (refused q e) = subst (R state) (sym e) (too_deep-along state q)
  along (call run) = along run
  along {state = state} {after = after} (plain {after = next_state} e run n) =
      holds_along.next state next_state after (subst (R state) (sym e) (holds_along.flushes state)) (along run)
  along {state = state} (wrapped {after = after} {later = later} {last = v} {end_state = end_state} {x = last} e p i
      c run y second_run) =
      let wrapping : R (wrapped_from (built_count after.tree) kind.NON_NULL_TYPE later) end_state = subst
      (λ n. R (wrapped_from n kind.NON_NULL_TYPE later) end_state) p
      (subst (λ v. R v end_state) i (along second_run)) in
      holds_along.next state after last (subst (R state) (sym e) (holds_along.flushes state))
      (subst (R after) (sym c) (holds_along.wraps kind.NON_NULL_TYPE after later end_state (along run) wrapping))

  pub turns-along : {test : Test} {rule : Rule} {state after : State} → Turns test rule state after → R state after
  turns-along {state = state} begin = holds_along.same state
  turns-along {state = state} {after = after} (turn {after = next_state} turns q run) =
      holds_along.next state next_state after (turns-along turns) (along run)

-- what is said of the current token and of the answers that are left holds along each run, when it does while a token
-- is taken
abbrev pub Keeps_reading : (Option Lexeme → List Answer → Type 0) → State → State → Type 0
Keeps_reading P state after = P state.current state.items → P after.current after.items

pub along-reading : (P : Option Lexeme → List Answer → Type 0)
    → ((leaf : SyntaxKind) (lexeme : Lexeme) (state : State) → state.current ≡ Some lexeme
    → Keeps_reading P state (read_on state.items (record state { tree = add_leaf leaf lexeme.text state.tree })))
    → Holds_along (Keeps_reading P)
unfolding flush closed enter leave wrapped_from
along-reading P moves = record {
  same = λ s h. h;
  next = λ s t u h k e. k (h e);
  flushes = λ s h. h;
  moves = λ leaf x s e w. moves leaf x s e;
  reports = λ m x s c a h. h;
  limits = λ x s c a d h. h;
  asks = λ s h. h;
  nodes = λ k s u h. h;
  levels = λ s u q h. h;
  wraps = λ k t u w h l e. l (h e);
}
