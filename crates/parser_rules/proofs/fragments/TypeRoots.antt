-- The root of a type that is parsed by itself, from the runs of its parts.
use Rattle.std.proofs.Common.{◌≡◌, ℕ, Bool, true, false, List, [], ◌||◌, refl, sym, ap, ap₂, ◌∙◌, subst, arith}
use Rattle.std.proofs.Math.Bool.{or-true}
use Rattle.lexical_grammar.specs.Answers.{Answer}
use Rattle.lexical_grammar.specs.declared.TokenKind.TheVariants as token
use Rattle.document_grammar.specs.Builds.{Building, Open, CanOpenAt, nothing, built_count}
use Rattle.document_grammar.specs.declared.kind.SyntaxKind.{SyntaxKind}
use Rattle.document_grammar.specs.declared.kind.SyntaxKind.TheVariants as kind
use Rattle.parser_rules.proofs.fragments.WrappedRuns.{wrapped-run, wrapped-root}
use Rattle.parser_rules.proofs.runs.Frame.{read-untouched, add_all-above, adds}
use Rattle.parser_rules.specs.Fragments.{unopened, started, list_root, named_root, ClosesType, nullable, non_null}
use Rattle.parser_rules.specs.Fragments.{RunsTypeRoot, makes_list, makes_name, makes_none, IsTypeRoot, a_list, a_name}
use Rattle.parser_rules.specs.Fragments.{not_null, no_type}
use Rattle.parser_rules.specs.Nodes.{ListType, NamedType, RequiredName}
use Rattle.parser_rules.specs.Open.{IsCheckpoint}
use Rattle.parser_rules.specs.RuleLanguage.{Here, At, holds, Do, Bump, Rule, Call, ◌>◌, refuse}
use Rattle.parser_rules.specs.Rules.{type_start, inside, nullable_type}
use Rattle.parser_rules.specs.Runs.{Runs, seq, yes, no, child}
use Rattle.parser_rules.specs.State.{State, read_on, is_at, fresh, flush, closed, wrapped_from}
use Rattle.parser_rules.specs.declared.message.Message.TheVariants as message

-- ---- where no node is open

-- the index before all that is built
pub root-checkpoint : (index : ℕ) (state : State) → index ≡ 0 → state.tree.above ≡ [] → IsCheckpoint index state.tree
unfolding IsCheckpoint
root-checkpoint index state first none =
    let least : CanOpenAt 0 (record { here = state.tree.here; above = [] }) =
    record { inside = omega arith; seam = refl } in
    subst (λ (n : ℕ). CanOpenAt n state.tree) (sym first)
    (subst (λ (above : List Open). CanOpenAt 0 (record { here = state.tree.here; above = above }))
    (sym none) least)

pub still-none : {rule : Rule} {state after : State} → Runs rule state after → state.tree.above ≡ []
    → after.tree.above ≡ []
still-none run none = (adds run).trees.above ∙ none

pub flushed-none : (state : State) {after : State} → after ≡ flush state → state.tree.above ≡ [] → after.tree.above ≡ []
unfolding flush
flushed-none state e none = ap (λ (z : State). z.tree.above) e ∙ (add_all-above state.pending state.tree ∙ none)

-- a node that was opened at an index, and closed
pub closed-none : (index : ℕ) (this_kind : SyntaxKind) (state : State) {after later : State}
    → after ≡ wrapped_from index this_kind state → later ≡ closed after
    → state.tree.above ≡ [] → later.tree.above ≡ []
unfolding wrapped_from closed
closed-none index this_kind state e f none = ap (λ (z : State). z.tree.above) (f ∙ ap closed e) ∙ none

-- ---- the first token

starts-list : (state : State) → true ≡ holds (At token.LBracket) state → true ≡ holds (Here type_start) state
unfolding holds
starts-list state e = sym (or-true (is_at token.Name state.current))
    ∙ ap (λ (b : Bool). is_at token.Name state.current || b) e

starts-name : (state : State) → true ≡ holds (At token.Name) state → true ≡ holds (Here type_start) state
unfolding holds
starts-name state e = ap (λ (b : Bool). b || is_at token.LBracket state.current) e

starts-none : (state : State) → false ≡ holds (At token.LBracket) state → false ≡ holds (At token.Name) state
    → false ≡ holds (Here type_start) state
unfolding holds
starts-none state e f = ap₂ (λ (a b : Bool). a || b) f e

-- ---- where the root opens

pub from-checkpoint : (first index : ℕ) (this_kind : SyntaxKind) (state : State) {after later last end_state : State}
    → first ≡ 0
    → true ≡ holds (At token.Bang) state → after ≡ wrapped_from index this_kind state → later ≡ closed after
    → Runs (Do (Bump kind.BANG)) later last
    → end_state ≡ wrapped_from first kind.NON_NULL_TYPE last
    → ClosesType index this_kind state end_state
from-checkpoint first index this_kind state {last = last} zero b e f run a =
    non_null b (subst (λ (z : State). Runs (Do (Bump kind.BANG)) z last) (f ∙ ap closed e) run)
    (a ∙ ap (λ (n : ℕ). wrapped_from n kind.NON_NULL_TYPE last) zero)

-- ---- the root

pub list-made : (state : State) {after later last : State} (index : ℕ) → after ≡ flush state
    → index ≡ built_count after.tree
    → true ≡ holds (At token.LBracket) after → Runs (inside ListType) after later
    → ClosesType index kind.LIST_TYPE later last → RunsTypeRoot (flush state) last
list-made state {later = later} {last = last} index f is e run close =
    subst (λ (z : State). RunsTypeRoot z last) f
    (makes_list e run (subst (λ (n : ℕ). ClosesType n kind.LIST_TYPE later last) is close))

pub name-made : (state : State) {after later last : State} (index : ℕ) → after ≡ flush state
    → index ≡ built_count after.tree
    → false ≡ holds (At token.LBracket) after → true ≡ holds (At token.Name) after
    → Runs (Call RequiredName) after later
    → ClosesType index kind.NAMED_TYPE later last → RunsTypeRoot (flush state) last
unfolding inside
name-made state {later = later} {last = last} index f is e n run close =
    subst (λ (z : State). RunsTypeRoot z last) f
    (makes_name e n run (subst (λ (n : ℕ). ClosesType n kind.NAMED_TYPE later last) is close))

pub none-made : (state : State) {after later last : State} (index : ℕ) → index ≡ 0 → after ≡ flush state
    → false ≡ holds (At token.LBracket) after
    → false ≡ holds (At token.Name) after → Runs (refuse message.ExpectedFieldType) after later
    → last ≡ wrapped_from index kind.ERROR later
    → RunsTypeRoot (flush state) last
none-made state {after = after} {later = later} {last = last} index first f e n run a =
    subst (λ (z : State). RunsTypeRoot z last) f
    (makes_none (starts-none after e n) run (a ∙ ap (λ (p : ℕ). wrapped_from p kind.ERROR later) first))

-- ---- a type and what follows it

-- What comes before the `!`, or is all of the type: as the root's rule ran, and as a node with the trees after it.
pub record Nullable (state : State) (this_kind : SyntaxKind) (later : State) : Type 0 where
  pub starts : true ≡ holds (Here type_start) state
  pub rule : Rule
  pub is : IsTypeRoot state this_kind rule
  pub run : Runs rule state later
  pub before : {this_rule : Rule} {end_state : State}
      → Runs this_rule (closed (wrapped_from (built_count state.tree) this_kind later)) end_state
      → Runs (nullable_type > this_rule) state end_state

pub list-first : {state later : State} → state.pending ≡ [] → true ≡ holds (At token.LBracket) state
    → Runs (inside ListType) state later
    → Nullable state kind.LIST_TYPE later
list-first {state = state} none e run = record {
  starts = starts-list state e;
  rule = list_root;
  is = a_list e;
  run = yes e run;
  before = λ h. yes e (seq (child refl refl (wrapped-run kind.LIST_TYPE none run)) h);
}

pub name-first : {state later : State} → state.pending ≡ [] → false ≡ holds (At token.LBracket) state
    → true ≡ holds (At token.Name) state
    → Runs (inside NamedType) state later → Nullable state kind.NAMED_TYPE later
name-first {state = state} none e n run = record {
  starts = starts-name state n;
  rule = named_root;
  is = a_name n;
  run = run;
  before = λ h. no e (seq (child refl refl (wrapped-run kind.NAMED_TYPE none run)) h);
}

-- ---- from the first state

pub unopened-none : (xs : List Answer) (max_depth : ℕ) → (unopened xs max_depth).tree.above ≡ []
unfolding flush
unopened-none xs max_depth =
    let state : State = record (fresh xs max_depth kind.ERROR) { tree = nothing } in
    add_all-above (read_on xs state).pending (read_on xs state).tree
    ∙ ap (λ (b : Building). b.above) (read-untouched xs state).tree

pub unopened-waits : (xs : List Answer) (max_depth : ℕ) → (unopened xs max_depth).pending ≡ []
unfolding flush
unopened-waits xs max_depth = refl

-- the rule of a type's root ran, and what it is says the first token
pub record TypeRun (xs : List Answer) (max_depth : ℕ) (state : State) : Type 0 where
  pub kind : SyntaxKind
  pub rule : Rule
  pub is : IsTypeRoot (unopened xs max_depth) kind rule
  pub run : Runs rule (started xs max_depth kind) state

root-run : (xs : List Answer) (max_depth : ℕ) {this_kind : SyntaxKind} {this_rule : Rule} {after later : State}
    → IsTypeRoot (unopened xs max_depth) this_kind this_rule → Runs this_rule (unopened xs max_depth) later
    → after ≡ wrapped_from 0 this_kind later
    → TypeRun xs max_depth after
root-run xs max_depth {this_kind = this_kind} {this_rule = this_rule} is_type_root run a =
    record {
      kind = this_kind;
      rule = this_rule;
      is = is_type_root;
      run = subst (λ (z : State). Runs this_rule (started xs max_depth this_kind) z) (sym a)
          (wrapped-root xs max_depth this_kind run (still-none run (unopened-none xs max_depth)));
    }

nullable-run : (xs : List Answer) (max_depth : ℕ) {this_kind : SyntaxKind} {after later : State}
    → Nullable (unopened xs max_depth) this_kind later
    → ClosesType (built_count (unopened xs max_depth).tree) this_kind later after → TypeRun xs max_depth after
unfolding holds closed wrapped_from
nullable-run xs max_depth n (nullable b a) = root-run xs max_depth n.is n.run a
nullable-run xs max_depth n (non_null b run a) = root-run xs max_depth (not_null n.starts) (n.before (yes b run)) a

pub made-run : (xs : List Answer) (max_depth : ℕ) {state : State} → RunsTypeRoot (unopened xs max_depth) state
    → TypeRun xs max_depth state
made-run xs max_depth (makes_list e run close) =
    nullable-run xs max_depth (list-first (unopened-waits xs max_depth) e run) close
made-run xs max_depth (makes_name e n run close) =
    nullable-run xs max_depth (name-first (unopened-waits xs max_depth) e n run) close
made-run xs max_depth (makes_none e run a) = root-run xs max_depth (no_type e) run a

pub makes-unopened : (xs : List Answer) (max_depth : ℕ) {state after : State} → state ≡ unopened xs max_depth
    → RunsTypeRoot (flush state) after
    → RunsTypeRoot (unopened xs max_depth) after
unfolding flush
makes-unopened xs max_depth {after = after} first made = subst (λ (z : State). RunsTypeRoot (flush z) after) first made

pub type-run : (xs : List Answer) (max_depth : ℕ) {state after : State} → state ≡ unopened xs max_depth
    → RunsTypeRoot (flush state) after
    → TypeRun xs max_depth after
type-run xs max_depth first made = made-run xs max_depth (makes-unopened xs max_depth first made)
