-- A run does not depend on the trees and the reports before: from the same state with other trees and reports there is
-- a run that adds the same trees and reports.
use Rattle.std.proofs.Common.{◌≡◌, ℕ, ◌+◌, max, min, Bool, true, false, not, ◌&&◌, if◌then◌else◌, List, [], ◌∷◌, ◌++◌}
use Rattle.std.proofs.Common.{Option, Some, None, refl, sym, ap, ap₂, ◌∙◌, subst, append_assoc, append-nil, arith}
use Rattle.lexical_grammar.specs.Answers.{Answer, usize_max}
use Rattle.lexical_grammar.specs.declared.TokenKind.TheVariants as token
use Rattle.document_grammar.proofs.Added.{Added, added-none, added-leaf, added-then, added-node, added-wrap}
use Rattle.document_grammar.specs.Builds.{Building, start, add_leaf, finish, wrap, built_count}
use Rattle.document_grammar.specs.Forests as built
use Rattle.document_grammar.specs.declared.kind.SyntaxKind.{SyntaxKind}
use Rattle.document_grammar.specs.declared.kind.SyntaxKind.TheVariants as kind
use Rattle.parser_rules.proofs.runs.Frame.{parts_forest, added-all}
use Rattle.parser_rules.proofs.runs.Reading.{Reading, stops, cuts, bad_text, waits, shows, reading, found}
use Rattle.parser_rules.proofs.runs.TreesWithSources.{moved_on}
use Rattle.parser_rules.specs.Nodes.{kind_of}
use Rattle.parser_rules.specs.RuleLanguage.{Test, At, Not, Both, holds, Prim, Bump, Note, step, Rule, Do, TooDeep}
use Rattle.parser_rules.specs.RuleLanguage.{Nested}
use Rattle.parser_rules.specs.Runs.{Runs, skip, does, seq, yes, no, done, again, child, limited, deeper, refused, call}
use Rattle.parser_rules.specs.Runs.{plain, wrapped}
use Rattle.parser_rules.specs.State.{State, Lexeme, PendingToken, Report, bad_report, token_limit_report}
use Rattle.parser_rules.specs.State.{recursion_limit_report, fault_report, add_all, flush, opened, closed, wrapped_from}
use Rattle.parser_rules.specs.State.{moved, bump, reported, noted, note, is_deep, deepened, limited_at, too_deep, enter}
use Rattle.parser_rules.specs.State.{leave}
use Rattle.parser_rules.specs.declared.message.Message.{Message}

-- the trees and the reports, and the highest nesting
pub record Built : Type 0 where
  pub tree : Building
  pub errors : List Report
  pub high : ℕ

abbrev pub built_of : State → Built
built_of state = record { tree = state.tree; errors = state.errors; high = state.high }

-- the state, where that was built and reported
abbrev pub on : State → Built → State
on state this_built = record state { tree = this_built.tree; errors = this_built.errors; high = this_built.high }

-- `later_built` has the trees and the reports more than `this_built`, and the highest nesting is at least `h`
abbrev pub More : built.Forest → List Report → ℕ → Built → Built → Type 0
More forest reports h this_built later_built = record {
  trees : Added forest this_built.tree later_built.tree;
  errors : later_built.errors ≡ this_built.errors ++ reports;
  high : later_built.high ≡ max this_built.high h;
}

-- `later_built` comes of `this_built` as `c'` of `last_built`: the same trees are added to the open node, and the same
-- reports, and the same depth is tried.
abbrev pub Same_steps : Built → Built → Built → Built → Type 0
Same_steps this_built later_built last_built c' = record {
  more : built.Forest;
  reports : List Report;
  asked : ℕ;
  one : More more reports asked this_built later_built;
  other : More more reports asked last_built c';
}

more-then : (forest more_trees : built.Forest) (reports more_reports : List Report) (m n : ℕ)
    (this_built later_built last_built : Built)
    → More forest reports m this_built later_built → More more_trees more_reports n later_built last_built
    → More (built.join forest more_trees) (reports ++ more_reports) (max m n) this_built last_built
more-then forest more_trees reports more_reports m n this_built later_built last_built more second_more = record {
  trees = added-then more.trees second_more.trees;
  errors = second_more.errors
      ∙ (ap (λ (z : List Report). z ++ more_reports) more.errors ∙ append_assoc this_built.errors reports more_reports);
  high = let x = more.high in let y = second_more.high in omega (arith, x, y);
}

then_on : (this_built later_built last_built b' c' d' : Built) → Same_steps this_built later_built b' c'
    → Same_steps later_built last_built c' d'
    → Same_steps this_built last_built b' d'
then_on this_built later_built last_built b' c' d' same_steps second_same_steps = record {
  more = built.join same_steps.more second_same_steps.more;
  reports = same_steps.reports ++ second_same_steps.reports;
  asked = max same_steps.asked second_same_steps.asked;
  one = more-then same_steps.more second_same_steps.more same_steps.reports second_same_steps.reports same_steps.asked
      second_same_steps.asked this_built
      later_built last_built same_steps.one second_same_steps.one;
  other = more-then same_steps.more second_same_steps.more same_steps.reports second_same_steps.reports same_steps.asked
      second_same_steps.asked b' c' d'
      same_steps.other second_same_steps.other;
}

-- trees more, and no report
grown : (forest : built.Forest) (this_built later_built last_built c' : Built)
    → Added forest this_built.tree later_built.tree
    → Added forest last_built.tree c'.tree → later_built.errors ≡ this_built.errors → c'.errors ≡ last_built.errors
    → later_built.high ≡ this_built.high
    → c'.high ≡ last_built.high → Same_steps this_built later_built last_built c'
grown forest this_built later_built last_built c' added second_added e e' n n' = record {
  more = forest;
  reports = [];
  asked = 0;
  one = record { trees = added; errors = e ∙ sym (append-nil this_built.errors); high = omega (arith, n) };
  other = record { trees = second_added; errors = e' ∙ sym (append-nil last_built.errors); high = omega (arith, n') };
}

still : (this_built later_built : Built) → Same_steps this_built this_built later_built later_built
still this_built later_built =
    grown built.none this_built this_built later_built later_built (added-none this_built.tree)
    (added-none later_built.tree) refl refl refl refl

-- a depth is tried
deeper-on : (n : ℕ) (this_built later_built : Built)
    → Same_steps this_built (record this_built { high = max this_built.high n }) later_built
    (record later_built { high = max later_built.high n })
deeper-on n this_built later_built = record {
  more = built.none;
  reports = [];
  asked = n;
  one = record { trees = added-none this_built.tree; errors = sym (append-nil this_built.errors); high = refl };
  other = record { trees = added-none later_built.tree; errors = sym (append-nil later_built.errors); high = refl };
}

-- a report more
abbrev tell : Report → Built → Built
tell report this_built = record this_built { errors = this_built.errors ++ report ∷ [] }

told : (report : Report) (this_built later_built : Built)
    → Same_steps this_built (tell report this_built) later_built (tell report later_built)
told report this_built later_built = record {
  more = built.none;
  reports = report ∷ [];
  asked = 0;
  one = record { trees = added-none this_built.tree; errors = refl; high = omega arith };
  other = record { trees = added-none later_built.tree; errors = refl; high = omega arith };
}

-- ---- steps

reading-on : {xs : List Answer} {state after : State} → Reading xs state after → (this_built : Built)
    → (later_built : Built) × Reading xs (on state this_built) (on after later_built)
    × Same_steps (built_of state) (built_of after) this_built later_built
reading-on {state = state} stops this_built = (this_built, stops, still (built_of state) this_built)
reading-on {state = state} {after = after} (cuts {index = index} this_reading) this_built =
    let report : Report = token_limit_report index in
    let k = reading-on this_reading (tell report this_built) in (
      k.0,
      cuts k.1,
      then_on (built_of state) (tell report (built_of state)) (built_of after) this_built (tell report this_built) k.0
          (told report (built_of state) this_built) k.2,
    )
reading-on {state = state} {after = after} (bad_text {item = item} e this_reading) this_built =
    let report : Report = bad_report item.text item.index in
    let k = reading-on this_reading (tell report this_built) in (
      k.0,
      bad_text e k.1,
      then_on (built_of state) (tell report (built_of state)) (built_of after) this_built (tell report this_built) k.0
          (told report (built_of state) this_built) k.2,
    )
reading-on (waits e i this_reading) this_built = let k = reading-on this_reading this_built in (k.0, waits e i k.1, k.2)
reading-on {state = state} (shows e i) this_built = (this_built, shows e i, still (built_of state) this_built)

-- a step from a state is one from the state where something else was built
abbrev Stepping : (State → State) → State → Built → Type 0
Stepping f state this_built = (later_built : Built) × (f (on state this_built) ≡ on (f state) later_built)
    × Same_steps (built_of state) (built_of (f state)) this_built later_built

abbrev flushed : State → Built → Built
flushed state this_built = record this_built { tree = add_all state.pending this_built.tree }

flushing : (state : State) (this_built : Built)
    → Same_steps (built_of state) (built_of (flush state)) this_built (flushed state this_built)
unfolding flush
flushing state this_built =
    grown (parts_forest state.pending) (built_of state) (built_of (flush state)) this_built (flushed state this_built)
    (added-all state.pending state.tree) (added-all state.pending this_built.tree) refl refl refl refl

bumping : (own : SyntaxKind) (state : State) (this_built : Built) → Stepping (bump own) state this_built
unfolding bump flush
bumping own state this_built = at state.current
  where
    at : (maybe_lexeme : Option Lexeme)
        → (later_built : Built)
        × (moved own (on state this_built) maybe_lexeme ≡ on (moved own state maybe_lexeme) later_built)
        × Same_steps (built_of state) (built_of (moved own state maybe_lexeme)) this_built later_built
    at None = (this_built, refl, still (built_of state) this_built)
    at (Some x) =
        let after : State = flush state in
        let later : State = moved_on own x after in
        let later_built : Built =
        record this_built { tree = add_leaf own x.text (add_all state.pending this_built.tree) } in
        let k = reading-on (reading state.items later) later_built in
        let leafed = grown (built.leaf own x.text built.none) (built_of after) (built_of later)
        (flushed state this_built) later_built
        (added-leaf own x.text after.tree) (added-leaf own x.text (add_all state.pending this_built.tree)) refl
        refl refl refl in
        let first = then_on (built_of state) (built_of after) (built_of later) this_built
        (flushed state this_built) later_built
        (flushing state this_built) leafed in (
          k.0,
          (found k.1).is,
          then_on (built_of state) (built_of later) (built_of (moved own state (Some x))) this_built
              later_built k.0 first k.2,
        )

reporting : (report : Report) (state : State) (this_built : Built) → Stepping (reported report) state this_built
reporting report state this_built = elim state.accepts as (λ b. (later_built : Built)
    × ((if b then on state (tell report this_built) else on state this_built)
    ≡ on (if b then record state { errors = state.errors ++ report ∷ [] } else state) later_built)
    × Same_steps (built_of state)
    (built_of (if b then record state { errors = state.errors ++ report ∷ [] } else state))
    this_built later_built) [
      | true ↦ (tell report this_built, refl, told report (built_of state) this_built)
      | false ↦ (this_built, refl, still (built_of state) this_built)
    ]

noting : (message : Message) (state : State) (this_built : Built) → Stepping (note message) state this_built
unfolding note
noting message state this_built = elim state.current as (λ o. (later_built : Built)
    × (noted message (on state this_built) o ≡ on (noted message state o) later_built)
    × Same_steps (built_of state) (built_of (noted message state o)) this_built later_built) [
      | None ↦
          (this_built, refl, still (built_of state) this_built)
      | Some x ↦ reporting (fault_report message x) state this_built
    ]

limiting : (state : State) (this_built : Built) → Stepping too_deep state this_built
unfolding too_deep
limiting state this_built = elim state.current as (λ o. (later_built : Built)
    × (limited_at (deepened (on state this_built)) o ≡ on (limited_at (deepened state) o) later_built)
    × Same_steps (built_of state) (built_of (limited_at (deepened state) o)) this_built later_built) [
      | None ↦ (
        record this_built { high = max this_built.high (min (state.depth + 1) usize_max) },
        refl,
        deeper-on (min (state.depth + 1) usize_max) (built_of state) this_built,
      )
      | Some x ↦ (let k = reporting (recursion_limit_report x) (deepened state)
          (record this_built { high = max this_built.high (min (state.depth + 1) usize_max) }) in (
            k.0,
            ap (λ (z : State). record z { accepts = false }) k.1,
            then_on (built_of state) (built_of (deepened state))
                (built_of (limited_at (deepened state) (Some x))) this_built
                (record this_built { high = max this_built.high (min (state.depth + 1) usize_max) }) k.0
                (deeper-on (min (state.depth + 1) usize_max) (built_of state) this_built) k.2,
          ))
    ]

stepping : (primitive : Prim) (state : State) (this_built : Built) → Stepping (step primitive) state this_built
unfolding step
stepping (Bump own) state this_built = bumping own state this_built
stepping (Note message) state this_built = noting message state this_built

-- no test sees what was built and reported, or what waits
pub test-same : (test : Test) (state : State) (this_built : Built) (parts : List PendingToken)
    → holds test (record state
    { tree = this_built.tree; errors = this_built.errors; high = this_built.high; pending = parts }) ≡ holds test state
unfolding holds is_deep
test-same (Not test) state this_built parts = ap not (test-same test state this_built parts)
test-same (Both test other_test) state this_built parts =
    ap₂ (λ (x y : Bool). x && y) (test-same test state this_built parts)
    (test-same other_test state this_built parts)
test-same _ state this_built parts = refl

-- ---- nodes

abbrev opened_on : SyntaxKind → State → Built → Built
opened_on this_kind state this_built =
    record this_built { tree = start this_kind (add_all state.pending this_built.tree) }

abbrev closed_on : Built → Built
closed_on this_built = record this_built { tree = finish this_built.tree }

noding : (this_kind : SyntaxKind) (state later : State) (this_built later_built : Built)
    → Same_steps (built_of (opened this_kind state)) (built_of later) (opened_on this_kind state this_built) later_built
    → Same_steps (built_of state) (built_of (closed later)) this_built (closed_on later_built)
unfolding opened closed flush
noding this_kind state later this_built later_built same_steps =
    then_on (built_of state) (built_of (flush state)) (built_of (closed later)) this_built
    (flushed state this_built) (closed_on later_built) (flushing state this_built) (record {
      more = built.node this_kind same_steps.more built.none;
      reports = same_steps.reports;
      asked = same_steps.asked;
      one = record {
        trees = added-node this_kind same_steps.one.trees;
        errors = same_steps.one.errors;
        high = same_steps.one.high;
      };
      other = record {
        trees = added-node this_kind same_steps.other.trees;
        errors = same_steps.other.errors;
        high = same_steps.other.high;
      };
    })

-- the state where a node around what was added since the type began is open
abbrev around : State → State → State
around state later = wrapped_from (built_count (flush state).tree) kind.NON_NULL_TYPE later

abbrev around_on : State → Built → Built → Built
around_on state this_built later_built = record later_built {
  tree = wrap
      (built_count (add_all state.pending this_built.tree)) kind.NON_NULL_TYPE later_built.tree;
}

wrapping : (state later : State) (this_built later_built : Built)
    → Same_steps (built_of (flush state)) (built_of later) (flushed state this_built) later_built
    → Same_steps (built_of (opened kind.NON_NULL_TYPE state)) (built_of (around state later))
    (opened_on kind.NON_NULL_TYPE state this_built)
    (around_on state this_built later_built)
unfolding wrapped_from opened flush
wrapping state later this_built later_built same_steps = record {
  more = same_steps.more;
  reports = same_steps.reports;
  asked = same_steps.asked;
  one = record {
    trees = added-wrap kind.NON_NULL_TYPE same_steps.one.trees;
    errors = same_steps.one.errors;
    high = same_steps.one.high;
  };
  other = record {
    trees = added-wrap kind.NON_NULL_TYPE same_steps.other.trees;
    errors = same_steps.other.errors;
    high = same_steps.other.high;
  };
}

-- ---- runs

abbrev pub Anew : Rule → State → State → Built → Type 0
Anew rule state after this_built = (later_built : Built) × Runs rule (on state this_built) (on after later_built)
    × Same_steps (built_of state) (built_of after) this_built later_built

pub anew : {rule : Rule} {state after : State} → Runs rule state after → (this_built : Built)
    → Anew rule state after this_built
unfolding is_deep flush opened closed enter leave wrapped_from
anew {state = state} skip this_built = (this_built, skip, still (built_of state) this_built)
anew {state = state} (does {primitive = primitive} e) this_built = let k = stepping primitive state this_built in
    subst (λ (z : State). Anew (Do primitive) state z this_built) (sym e) (k.0, does (sym k.1), k.2)
anew {state = state} {after = after} (seq {after = next_state} run second_run) this_built =
    let i = anew run this_built in let j = anew second_run i.0 in
    (j.0, seq i.1 j.1, then_on (built_of state) (built_of next_state) (built_of after) this_built i.0 j.0 i.2 j.2)
anew {state = state} (yes {test = test} e run) this_built = let i = anew run this_built in
    (i.0, yes (e ∙ sym (test-same test state this_built state.pending)) i.1, i.2)
anew {state = state} (no {test = test} e run) this_built = let i = anew run this_built in
    (i.0, no (e ∙ sym (test-same test state this_built state.pending)) i.1, i.2)
anew {state = state} (done {test = test} e) this_built = (
  this_built,
  done (e ∙ sym (test-same test state this_built state.pending)),
  still (built_of state) this_built,
)
anew {state = state} {after = after} (again {test = test} {after = next_state} e run second_run) this_built =
    let i = anew run this_built in
    let j = anew second_run i.0 in (
      j.0,
      again (e ∙ sym (test-same test state this_built state.pending)) i.1 j.1,
      then_on (built_of state) (built_of next_state) (built_of after) this_built i.0 j.0 i.2 j.2,
    )
anew {state = state} (child {node = node} {after = after} {later = later} e k run) this_built =
    let later_built : Built = opened_on (kind_of node) state this_built in
    let i = anew run later_built in
    let last_built : Built = closed_on i.0 in (
      last_built,
      child (ap (λ (z : State). on z later_built) e) (ap (λ (z : State). on z last_built) k) i.1,
      subst (λ (z : State). Same_steps (built_of state) (built_of z) this_built last_built) (sym k)
          (noding (kind_of node) state later this_built i.0
          (subst (λ (z : State). Same_steps (built_of z) (built_of later) later_built i.0) e i.2)),
    )
anew {state = state} {after = after} (deeper {after = next_state} {later = later} {last = last} q e k run second_run)
    this_built =
    let later_built : Built = record this_built { high = max this_built.high (state.depth + 1) } in
    let i = anew run later_built in
    let j = anew second_run i.0 in
    let inside : Same_steps (built_of state) (built_of later) this_built i.0 =
    then_on (built_of state) (built_of (enter state))
    (built_of later) this_built later_built i.0 (deeper-on (state.depth + 1) (built_of state) this_built)
    (subst (λ (z : State). Same_steps (built_of z) (built_of later) later_built i.0) e i.2) in
    let c = subst (λ (z : State). Same_steps (built_of state) (built_of z) this_built i.0) (sym k) inside in (
      j.0,
      deeper q (ap (λ (z : State). on z later_built) e) (ap (λ (z : State). on z i.0) k) i.1 j.1,
      then_on (built_of state) (built_of last) (built_of after) this_built i.0 j.0 c j.2,
    )
anew {state = state} (limited q e) this_built = let k = limiting state this_built in
    subst (λ (z : State). Anew TooDeep state z this_built) (sym e) (k.0, limited q (sym k.1), k.2)
anew {state = state} (refused {rule = rule} {other_rule = other_rule} q e) this_built =
    let k = limiting state this_built in
    subst (λ (z : State). Anew (Nested rule other_rule) state z this_built) (sym e) (k.0, refused q (sym k.1), k.2)
anew (call run) this_built = let i = anew run this_built in (i.0, call i.1, i.2)
anew {state = state} {after = after} (plain {after = next_state} e run n) this_built =
    let i = anew run (flushed state this_built) in
    let f = subst (λ (z : State). Same_steps (built_of state) (built_of z) this_built (flushed state this_built))
    (sym e) (flushing state this_built) in (
      i.0,
      plain (ap (λ (z : State). on z (flushed state this_built)) e) i.1
          (n ∙ sym (test-same (At token.Bang) after i.0 after.pending)),
      then_on (built_of state) (built_of next_state) (built_of after) this_built (flushed state this_built) i.0 f i.2,
    )
anew {state = state} (wrapped {after = after} {later = later} {last = last} {end_state = end_state} e p m c run n
    second_run) this_built =
    let this_kind : SyntaxKind = kind.NON_NULL_TYPE in
    let i = anew run (flushed state this_built) in
    let later_built : Built = around_on state this_built i.0 in
    let j = anew second_run later_built in
    let there : last ≡ around state later =
    m ∙ ap (λ (n : ℕ). wrapped_from n this_kind later) (p ∙ ap (λ (z : State). built_count z.tree) e) in
    let first = wrapping state later this_built i.0
    (subst (λ (z : State). Same_steps (built_of z) (built_of later) (flushed state this_built) i.0) e i.2) in
    let inside = then_on (built_of (opened this_kind state)) (built_of (around state later)) (built_of end_state)
    (opened_on this_kind state this_built) later_built j.0 first
    (subst (λ (z : State). Same_steps (built_of z) (built_of end_state) later_built j.0) there
    j.2) in
    let last_built : Built = closed_on j.0 in (
      last_built,
      wrapped (ap (λ (z : State). on z (flushed state this_built)) e) refl (ap (λ (z : State). on z later_built) there)
          (ap (λ (z : State). on z last_built) c) i.1 (n ∙ sym (test-same (At token.Bang) later i.0 later.pending)) j.1,
      subst (λ (z : State). Same_steps (built_of state) (built_of z) this_built last_built) (sym c)
          (noding this_kind state end_state this_built j.0 inside),
    )
