-- What all runs keep: the nesting and its limit, no more is left than before, and trees are only added to the open
-- node.
use Rattle.std.proofs.Common.{◌≡◌, ℕ, ◌+◌, ◌<◌, ◌≤◌, Option, Some, None, List, [], ◌∷◌, length, refl, sym, ◌∙◌, ap}
use Rattle.std.proofs.Common.{subst, arith, true, false}
use Rattle.std.proofs.lemmas.Bool.{leb-false}
use Rattle.lexical_grammar.specs.Answers.{Answer}
use Rattle.lexical_grammar.specs.declared.TokenKind.{TokenKind}
use Rattle.document_grammar.proofs.Added.{Added, added-none, added-leaf, added-then, added-node, added-wrap}
use Rattle.document_grammar.proofs.Added.{can-open-last, can-open-added}
use Rattle.document_grammar.specs.Builds.{Building, nothing, start, add_leaf, built_count, CanOpenAt}
use Rattle.document_grammar.specs.Forests as built
use Rattle.document_grammar.specs.Forests.{none as no_trees, Forest, join}
use Rattle.document_grammar.specs.declared.kind.SyntaxKind.{SyntaxKind}
use Rattle.parser_rules.proofs.runs.Reading.{Reading, stops, cuts, bad_text, waits, shows, reading, found}
use Rattle.parser_rules.proofs.runs.Steps.{Holds_along, along, turns-along}
use Rattle.parser_rules.specs.Open.{is_free, is_free_in, IsOpen, IsCheckpoint, IsInside, IsRoot}
use Rattle.parser_rules.specs.RuleLanguage.{Test, At, holds, Rule, Skip, While}
use Rattle.parser_rules.specs.Runs.{Runs, done, again, refused, Turns, begin, turn}
use Rattle.parser_rules.specs.State.{State, Text, Lexeme, PendingToken, read_on, add_all, flush, opened, closed}
use Rattle.parser_rules.specs.State.{wrapped_from, is_at, is_deep, enter, leave, too_deep, fresh, begun}

-- ---- reading on

-- what reading on leaves as it is
abbrev pub Untouched : State → State → Type 0
Untouched state after = record {
  tree : after.tree ≡ state.tree;
  depth : after.depth ≡ state.depth;
  limit : after.limit ≡ state.limit;
  high : after.high ≡ state.high;
  asked : after.asked ≡ state.asked;
  budget : after.budget ≡ state.budget;
}

pub untouched : {xs : List Answer} {state after : State} → Reading xs state after → Untouched state after
untouched stops = record { tree = refl; depth = refl; limit = refl; high = refl; asked = refl; budget = refl }
untouched (cuts this_reading) = untouched this_reading
untouched (bad_text e this_reading) = untouched this_reading
untouched (waits e i this_reading) = untouched this_reading
untouched (shows e i) = record { tree = refl; depth = refl; limit = refl; high = refl; asked = refl; budget = refl }

pub read-untouched : (xs : List Answer) (state : State) → Untouched state (read_on xs state)
read-untouched xs state = untouched (reading xs state)

closes : {xs : List Answer} {state after : State} → Reading xs state after → Reading xs (closed state) (closed after)
unfolding closed
closes stops = stops
closes (cuts this_reading) = cuts (closes this_reading)
closes (bad_text e this_reading) = bad_text e (closes this_reading)
closes (waits e i this_reading) = waits e i (closes this_reading)
closes (shows e i) = shows e i

-- reading on and closing a node commute
pub read-closed : (xs : List Answer) (state : State) → closed (read_on xs state) ≡ read_on xs (closed state)
read-closed xs state = sym (found (closes (reading xs state))).is

-- how much is left to read
abbrev pub one_if : Option Lexeme → ℕ
one_if None = 0
one_if (Some _) = 1

unfoldable pub left : State → ℕ
left state = one_if state.current + length state.items

pub read-left : {xs : List Answer} {state after : State} → Reading xs state after → state.items ≡ xs
    → left after ≤ length xs
unfolding left
read-left {state = state} stops e = let n : length state.items ≡ 0 = ap length e in omega arith
read-left (cuts this_reading) e = let f = read-left this_reading refl in omega (arith, f)
read-left (bad_text i this_reading) e = let f = read-left this_reading refl in omega (arith, f)
read-left (waits i j this_reading) e = let f = read-left this_reading refl in omega (arith, f)
read-left (shows i j) e = omega arith

pub moved-left : (leaf : SyntaxKind) (lexeme : Lexeme) (state : State) → state.current ≡ Some lexeme
    → left (read_on state.items (record state { tree = add_leaf leaf lexeme.text state.tree })) < left state
unfolding left
moved-left leaf lexeme state e =
    let h = read-left (reading state.items (record state { tree = add_leaf leaf lexeme.text state.tree })) refl in
    let c : one_if state.current ≡ 1 = ap one_if e in
    omega (arith, h)

-- ---- the levels, and what is left to read

abbrev pub Keeps : State → State → Type 0
Keeps state after = record {
  fewer : left after ≤ left state;
  depth : after.depth ≡ state.depth;
  limit : after.limit ≡ state.limit;
  asked : after.asked ≡ state.asked;
  budget : after.budget ≡ state.budget;
  higher : state.high ≤ after.high;
  bound : state.depth ≤ state.limit → state.high ≤ state.limit + 1 → after.high ≤ state.limit + 1;
}

same-levels : (state after : State) → left after ≤ left state → after.depth ≡ state.depth → after.limit ≡ state.limit
    → after.high ≡ state.high
    → after.asked ≡ state.asked → after.budget ≡ state.budget → Keeps state after
same-levels state after f d l h n b =
    record { fewer = f; depth = d; limit = l; asked = n; budget = b; higher = omega arith; bound = λ y c. omega arith }

same : (state : State) → Keeps state state
same state = same-levels state state (omega arith) refl refl refl refl refl

next : (state after later : State) → Keeps state after → Keeps after later → Keeps state later
next state after later kept second_kept = record {
  fewer = let a = kept.fewer in let b = second_kept.fewer in omega (arith, a, b);
  depth = second_kept.depth ∙ kept.depth;
  limit = second_kept.limit ∙ kept.limit;
  asked = second_kept.asked ∙ kept.asked;
  budget = second_kept.budget ∙ kept.budget;
  higher = let a = kept.higher in let b = second_kept.higher in omega (arith, a, b);
  bound = λ d c. let e = kept.depth in let l = kept.limit in let b = kept.bound d c in let g =
      second_kept.bound (omega arith) (omega arith) in omega arith;
}

moves : (leaf : SyntaxKind) (lexeme : Lexeme) (state : State) → state.current ≡ Some lexeme
    → Keeps state (read_on state.items (record state { tree = add_leaf leaf lexeme.text state.tree }))
moves leaf lexeme state e =
    let after : State = record state { tree = add_leaf leaf lexeme.text state.tree } in
    let u = read-untouched state.items after in
    let f = moved-left leaf lexeme state e in
    same-levels state (read_on state.items after) (omega (arith, f)) u.depth u.limit u.high u.asked u.budget

pub not-deep : (state : State) → false ≡ is_deep state → state.depth < state.limit
unfolding is_deep
not-deep state e = leb-false state.limit state.depth (sym e)

levels : (state later : State) → false ≡ is_deep state → Keeps (enter state) later → Keeps state (leave later)
unfolding enter leave left
levels state later q kept = record {
  fewer = kept.fewer;
  depth = let d = kept.depth in omega (arith, d);
  limit = kept.limit;
  asked = kept.asked;
  budget = kept.budget;
  higher = let a = kept.higher in omega (arith, a);
  bound = λ d c. let n = not-deep state q in kept.bound (omega arith) (omega arith);
}

pub keeps_along : Holds_along Keeps
unfolding left flush closed wrapped_from
keeps_along = record {
  same = same;
  next = next;
  flushes = same;
  moves = λ leaf x s e w. moves leaf x s e;
  reports = λ m x s c a. same s;
  limits = λ x s c a d. same s;
  asks = λ s. record {
    fewer = omega arith;
    depth = refl;
    limit = refl;
    asked = refl;
    budget = refl;
    higher = omega arith;
    bound = λ d c. omega arith;
  };
  nodes = λ k s u h. h;
  levels = levels;
  wraps = λ k t u w h l. next t u w h l;
}

-- no run leaves a level open, or leaves one that it did not enter
pub keeps : {rule : Rule} {state after : State} → Runs rule state after → Keeps state after
keeps run = along keeps_along run

pub turned : {test : Test} {rule : Rule} {state after : State} → Turns test rule state after → Keeps state after
turned turns = turns-along keeps_along turns

-- also where a loop ends early
pub budget-in-loop : {test : Test} {rule : Rule} {state after : State} → Turns test rule state after
    → after.budget ≡ state.budget
budget-in-loop turns = (turned turns).budget

pub fewer : {rule : Rule} {state after : State} → Runs rule state after → left after ≤ left state
fewer run = (keeps run).fewer

-- ---- what is added

-- each run only adds trees to the open node
pub record Adds (state after : State) : Type 0 where
  pub more : Forest
  pub trees : Added more state.tree after.tree

abbrev pub parts_forest : List PendingToken → Forest
parts_forest [] = built.none
parts_forest (pending_token ∷ parts) = built.leaf pending_token.kind pending_token.text (parts_forest parts)

pub added-all : (parts : List PendingToken) (building : Building)
    → Added (parts_forest parts) building (add_all parts building)
added-all [] building = added-none building
added-all (pending_token ∷ parts) building = added-then (added-leaf pending_token.kind pending_token.text building)
    (added-all parts (add_leaf pending_token.kind pending_token.text building))

pub add_all-above : (parts : List PendingToken) (building : Building) → (add_all parts building).above ≡ building.above
add_all-above parts building = (added-all parts building).above

-- a leaf that is taken, after reading on
pub added-read : (kind : SyntaxKind) (text : Text) (state : State) → Added (built.leaf kind text built.none) state.tree
    (read_on state.items (record state { tree = add_leaf kind text state.tree })).tree
added-read kind text state = subst (Added (built.leaf kind text built.none) state.tree)
    (sym (read-untouched state.items (record state { tree = add_leaf kind text state.tree })).tree)
    (added-leaf kind text state.tree)

abbrev pub adds_along : Holds_along Adds
unfolding flush enter leave closed wrapped_from
adds_along = record {
  same = λ s. record { more = built.none; trees = added-none s.tree };
  next = λ s t u h k. record { more = join h.more k.more; trees = added-then h.trees k.trees };
  flushes = λ s. record { more = parts_forest s.pending; trees = added-all s.pending s.tree };
  moves = λ leaf x s e w. record { more = built.leaf leaf x.text built.none; trees = added-read leaf x.text s };
  reports = λ m x s c a. record { more = built.none; trees = added-none s.tree };
  limits = λ x s c a d. record { more = built.none; trees = added-none s.tree };
  asks = λ s. record { more = built.none; trees = added-none s.tree };
  nodes = λ k s u h. record { more = built.node k h.more built.none; trees = added-node k h.trees };
  levels = λ s u d h. record { more = h.more; trees = h.trees };
  wraps = λ k t u w h l. record {
    more = built.node k (join h.more l.more) built.none;
    trees = added-node k (added-then (added-wrap k h.trees) l.trees);
  };
}

pub adds : {rule : Rule} {state after : State} → Runs rule state after → Adds state after
adds run = along adds_along run

-- ---- what closing a node and leaving a level require: steps that `search` chains

pub is-open : (kind : SyntaxKind) (state : State) {after : State} → is_free kind ≡ true
    → after ≡ opened kind state → IsOpen after.tree
unfolding opened IsOpen
is-open kind state free e = subst (λ w. is_free_in w.tree.above ≡ true) (sym e) free

pub still-open : {rule : Rule} {state after : State} → Runs rule state after → IsOpen state.tree → IsOpen after.tree
unfolding IsOpen
still-open run is_open = subst (λ above. is_free_in above ≡ true) (sym (adds run).trees.above) is_open

pub open-in-node : (kind : SyntaxKind) (state : State) {rule : Rule} {after : State} → is_free kind ≡ true
    → Runs rule (opened kind state) after
    → IsOpen after.tree
open-in-node kind state free run = still-open run (is-open kind state free refl)

pub open-in-loop : {test : Test} {rule : Rule} {state after : State} → Turns test rule state after
    → IsOpen state.tree → IsOpen after.tree
unfolding IsOpen
open-in-loop turns is_open =
    subst (λ above. is_free_in above ≡ true) (sym (turns-along adds_along turns).trees.above) is_open

pub open-inside : (state : State) {after : State} → after ≡ enter state → IsOpen state.tree → IsOpen after.tree
unfolding IsOpen enter
open-inside state e is_open = subst (λ w. is_free_in w.tree.above ≡ true) (sym e) is_open

pub open-outside : (state : State) {after : State} → after ≡ leave state → IsOpen state.tree → IsOpen after.tree
unfolding IsOpen leave
open-outside state e is_open = subst (λ w. is_free_in w.tree.above ≡ true) (sym e) is_open

pub open-too-deep : (state : State) {after : State} → true ≡ is_deep state → after ≡ too_deep state
    → IsOpen state.tree → IsOpen after.tree
open-too-deep state q e is_open = still-open (refused {rule = Skip} {other_rule = Skip} q e) is_open

pub is-inside : (state : State) {after : State} → after ≡ enter state → IsInside after
unfolding enter IsInside
is-inside state e = subst (λ w. 0 < w.depth) (sym e) (omega arith)

pub still-inside : {rule : Rule} {state after : State} → Runs rule state after → IsInside state → IsInside after
unfolding IsInside
still-inside run is_inside = let k = (keeps run).depth in omega (arith, is_inside, k)

pub open-wrapped : (kind : SyntaxKind) (index : ℕ) (state : State) {after : State} → is_free kind ≡ true
    → after ≡ wrapped_from index kind state
    → IsOpen after.tree
unfolding wrapped_from IsOpen
open-wrapped kind index state free e = subst (λ w. is_free_in w.tree.above ≡ true) (sym e) free

-- the index after all that is built
pub is-checkpoint : (state : State) (index : ℕ) → index ≡ built_count state.tree → IsCheckpoint index state.tree
unfolding IsCheckpoint
is-checkpoint state index e = subst (λ n. CanOpenAt n state.tree) (sym e) (can-open-last state.tree)

pub still-checkpoint : (index : ℕ) {rule : Rule} {state after : State} → Runs rule state after
    → IsCheckpoint index state.tree → IsCheckpoint index after.tree
unfolding IsCheckpoint
still-checkpoint index run is_checkpoint = can-open-added index (adds run).trees is_checkpoint

-- a token that is there is still there in a node that was opened
pub still-at : (this_kind : SyntaxKind) (kind : TokenKind) (state : State) {after : State}
    → true ≡ holds (At kind) state → after ≡ opened this_kind state
    → true ≡ holds (At kind) after
unfolding opened flush holds
still-at this_kind kind state e o = e ∙ sym (ap (λ w. is_at kind w.current) o)

-- ---- loops

pub onto : {test : Test} {rule : Rule} {state after later : State} → Turns test rule state after
    → Runs (While test rule) after later
    → Runs (While test rule) state later
onto begin run = run
onto (turn turns q run) second_run = onto turns (again q run second_run)

-- a loop that ends ran
pub ended : {test : Test} {rule : Rule} {state after : State} → Turns test rule state after → false ≡ holds test after
    → Runs (While test rule) state after
ended turns q = onto turns (done q)

-- ---- the root

pub root-open : (items : List Answer) (limit : ℕ) (kind : SyntaxKind)
    → (begun items limit kind).tree ≡ start kind nothing
root-open items limit kind = (read-untouched items (fresh items limit kind)).tree

-- the root is open to the end, and no other node
pub root-stays : {rule : Rule} {state : State} (items : List Answer) (limit : ℕ) (this_kind : SyntaxKind)
    → Runs rule (begun items limit this_kind) state
    → state.tree.above ≡ record { before = no_trees; kind = this_kind } ∷ []
root-stays items limit this_kind run = (adds run).trees.above ∙ ap (λ b. b.above) (root-open items limit this_kind)

pub root-kept : {rule : Rule} {state : State} (items : List Answer) (limit : ℕ) (kind : SyntaxKind)
    → is_free kind ≡ true
    → Runs rule (begun items limit kind) state → IsRoot state.tree
root-kept items limit kind free run = (kind, free, root-stays items limit kind run)

-- the nesting is taken back, the limit is the one that was set, and the highest nesting is at most one level more
pub kept-nesting : (items : List Answer) (limit : ℕ) (kind : SyntaxKind) (state : State)
    → Keeps (begun items limit kind) state
    → (state.depth ≡ 0) × (state.limit ≡ limit) × (state.high ≤ limit + 1)
kept-nesting items limit kind state kept =
    let b = read-untouched items (fresh items limit kind) in
    let d = b.depth in
    let l = b.limit in
    let g = b.high in
    let bound = kept.bound (omega (arith, d, l)) (omega (arith, g, l)) in
    (kept.depth ∙ d, kept.limit ∙ l, omega (arith, bound, l))

pub begun-nesting : {rule : Rule} {state : State} (items : List Answer) (limit : ℕ) (kind : SyntaxKind)
    → Runs rule (begun items limit kind) state
    → (state.depth ≡ 0) × (state.limit ≡ limit) × (state.high ≤ limit + 1)
begun-nesting {state = state} items limit kind run = kept-nesting items limit kind state (keeps run)

pub begun-asked : {rule : Rule} {state : State} (items : List Answer) (limit : ℕ) (kind : SyntaxKind)
    → Runs rule (begun items limit kind) state
    → state.asked ≡ length items
begun-asked items limit kind run = (keeps run).asked ∙ (read-untouched items (fresh items limit kind)).asked
