-- A run from where a node is open is one from where the node opens only afterwards, around what was added.
use Rattle.std.proofs.Common.{◌≡◌, ℕ, ◌-◌, List, [], ◌∷◌, refl, sym, ap, ap₂, ◌∙◌, subst, arith}
use Rattle.lexical_grammar.specs.Answers.{Answer}
use Rattle.document_grammar.proofs.Added.{Added, added-wrap}
use Rattle.document_grammar.specs.Builds.{Building, Open, nothing, start, wrap, wrap_at, built_count, open_count}
use Rattle.document_grammar.specs.Forests.{Forest, none as no_trees}
use Rattle.document_grammar.specs.declared.kind.SyntaxKind.{SyntaxKind}
use Rattle.parser_rules.proofs.runs.Anew.{anew}
use Rattle.parser_rules.proofs.runs.Frame.{added-all, read-untouched}
use Rattle.parser_rules.proofs.runs.Reading.{Reading, stops, cuts, bad_text, waits, shows, reading, found}
use Rattle.parser_rules.specs.Fragments.{started, unopened}
use Rattle.parser_rules.specs.RuleLanguage.{Rule}
use Rattle.parser_rules.specs.Runs.{Runs}
use Rattle.parser_rules.specs.State.{State, Report, PendingToken, read_on, flush, fresh, add_all, opened, wrapped_from}

added-same : {forest : Forest} {building later_building last_building : Building} → Added forest building later_building
    → Added forest building last_building
    → later_building ≡ last_building
added-same added second_added =
    ap₂ (λ (here : Forest) (above : List Open). record { here = here; above = above })
    (added.here ∙ sym second_added.here)
    (added.above ∙ sym second_added.above)

-- the same run, where something else is built, as long as what is added fits
pub elsewhere : {rule : Rule} {state after : State} → Runs rule state after → (building later_building : Building)
    → ((forest : Forest) → Added forest state.tree after.tree → Added forest building later_building)
    → Runs rule (record state { tree = building }) (record after { tree = later_building })
elsewhere {rule = rule} {state = state} {after = after} run building later_building fit =
    let (e, h, k) = anew run (record { tree = building; errors = state.errors; high = state.high }) in
    let trees : e.tree ≡ later_building = added-same k.other.trees (fit k.more k.one.trees) in
    let errors : e.errors ≡ after.errors = k.other.errors ∙ sym k.one.errors in
    let high : e.high ≡ after.high = k.other.high ∙ sym k.one.high in
    subst (λ (z : Building). Runs rule (record state { tree = building }) (record after { tree = z })) trees
    (subst (λ (es : List Report). Runs rule (record state { tree = building })
    (record after { tree = e.tree; errors = es })) errors
    (subst (λ (n : ℕ). Runs rule (record state { tree = building })
    (record after { tree = e.tree; errors = e.errors; high = n })) high h))

-- a node that opens around what a run added
pub wrapped-run : {rule : Rule} {state after : State} (kind : SyntaxKind) → state.pending ≡ [] → Runs rule state after
    → Runs rule (opened kind state) (wrapped_from (built_count state.tree) kind after)
unfolding opened flush wrapped_from
wrapped-run {rule = rule} {state = state} {after = after} kind none run =
    subst (λ (p : List PendingToken). Runs rule
    (record state { tree = start kind (add_all p state.tree); pending = [] })
    (record after { tree = wrap (built_count state.tree) kind after.tree })) (sym none)
    (subst (λ (p : List PendingToken). Runs rule (record state { tree = start kind state.tree; pending = p })
    (record after { tree = wrap (built_count state.tree) kind after.tree })) none
    (elsewhere run (start kind state.tree) (wrap (built_count state.tree) kind after.tree) (λ f. added-wrap kind)))

-- ---- the root

builds : {xs : List Answer} {state after : State} (building : Building) → Reading xs state after
    → Reading xs (record state { tree = building }) (record after { tree = building })
builds building stops = stops
builds building (cuts this_reading) = cuts (builds building this_reading)
builds building (bad_text e this_reading) = bad_text e (builds building this_reading)
builds building (waits e i this_reading) = waits e i (builds building this_reading)
builds building (shows e i) = shows e i

read-built : (xs : List Answer) (state : State) (building : Building) → read_on xs (record state { tree = building })
    ≡ record (read_on xs state) { tree = building }
read-built xs state building = (found (builds building (reading xs state))).is

-- the root around all that there is
abbrev pub around_all : SyntaxKind → Building → Building
around_all this_kind building =
    record { here = building.here; above = record { before = no_trees; kind = this_kind } ∷ [] }

flushed-around : (kind : SyntaxKind) (parts : List PendingToken)
    → add_all parts (start kind nothing) ≡ around_all kind (add_all parts nothing)
flushed-around kind parts =
    let a = added-all parts (start kind nothing) in
    let b = added-all parts nothing in
    ap₂ (λ (here : Forest) (above : List Open). record { here = here; above = above }) (a.here ∙ sym b.here) a.above

pub started-around : (xs : List Answer) (max_depth : ℕ) (kind : SyntaxKind)
    → started xs max_depth kind ≡ record (unopened xs max_depth) { tree = around_all kind (unopened xs max_depth).tree }
unfolding flush
started-around xs max_depth kind =
    let one : State = record (fresh xs max_depth kind) { tree = nothing } in
    let read : State = read_on xs one in
    let tree : read.tree ≡ nothing = (read-untouched xs one).tree in
    ap flush (read-built xs one (start kind nothing))
    ∙ ap (λ (b : Building). record read { tree = b; pending = [] }) (flushed-around kind read.pending
    ∙ ap (λ (b : Building). around_all kind (add_all read.pending b)) (sym tree))

pub wrapped-all : (this_kind : SyntaxKind) (building : Building) → building.above ≡ []
    → wrap 0 this_kind building ≡ around_all this_kind building
wrapped-all this_kind building none =
    let zero_is : 0 - open_count building.above ≡ 0 = omega arith in
    ap (λ (n : ℕ). wrap_at n this_kind building) zero_is ∙ ap (λ (above : List Open). record {
      here = building.here;
      above = record { before = no_trees; kind = this_kind } ∷ above;
    }) none

-- a root that opens around all that a run built
pub wrapped-root : {rule : Rule} {state : State} (xs : List Answer) (max_depth : ℕ) (kind : SyntaxKind)
    → Runs rule (unopened xs max_depth) state
    → state.tree.above ≡ [] → Runs rule (started xs max_depth kind) (wrapped_from 0 kind state)
unfolding wrapped_from
wrapped-root {rule = rule} {state = state} xs max_depth kind run none =
    let s : State = unopened xs max_depth in
    subst (λ (z : State). Runs rule z (wrapped_from 0 kind state)) (sym (started-around xs max_depth kind))
    (subst (λ (b : Building). Runs rule (record s { tree = around_all kind s.tree }) (record state { tree = b }))
    (sym (wrapped-all kind state.tree none))
    (elsewhere run (around_all kind s.tree) (around_all kind state.tree)
    (λ f h. record { above = refl; here = h.here })))
