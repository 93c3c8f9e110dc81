-- A turn of the document's loop adds one child to the root, after the waiting leaves; also where some of that is in the
-- tree already.
use Rattle.std.proofs.Common.{◌≡◌, ℕ, suc, Bool, true, false, if◌then◌else◌, [], ◌∷◌, ◌++◌, Some, None, refl, sym, ap}
use Rattle.std.proofs.Common.{◌∙◌, subst, ◌⊎◌, inl, inr}
use Rattle.document_grammar.proofs.Added.{Added, added-then}
use Rattle.document_grammar.proofs.Booleans.{false-true, and-l, and-r}
use Rattle.document_grammar.proofs.Joins.{join-assoc, join-none}
use Rattle.document_grammar.specs.Booleans.{◌and◌}
use Rattle.document_grammar.specs.Forests as built
use Rattle.document_grammar.specs.declared.kind.SyntaxKind.{SyntaxKind}
use Rattle.parser_rules.proofs.NodeChecks.{node-passes}
use Rattle.parser_rules.proofs.recovery.RecoveryCheck.{row_check}
use Rattle.parser_rules.proofs.recovery.RowSymbols.{Fit, sound}
use Rattle.parser_rules.proofs.runs.Anew.{built_of, test-same}
use Rattle.parser_rules.proofs.runs.Frame.{parts_forest, added-all}
use Rattle.parser_rules.proofs.runs.Fuel.{rules_deep}
use Rattle.parser_rules.proofs.runs.Progress.{ready-there}
use Rattle.parser_rules.proofs.runs.Reporting.{after-note}
use Rattle.parser_rules.proofs.runs.TreesWithSources.{Source, token, TreesWithSources, none, leaf, node, append, erase}
use Rattle.parser_rules.proofs.runs.TreesWithSources.{erase-append, Grown, grown-none, grown-then, grown-leaf}
use Rattle.parser_rules.proofs.runs.TreesWithSources.{grown-note, grown-node}
use Rattle.parser_rules.proofs.runs.Walk.{walked}
use Rattle.parser_rules.proofs.soundness.Soundness.{loops}
use Rattle.parser_rules.specs.Nodes.{kind_of, Definition}
use Rattle.parser_rules.specs.RuleLanguage.{Test, Ready, holds, Bump, Note, step, Rule, Do, Seq, When, Child, Call}
use Rattle.parser_rules.specs.Rules.{body}
use Rattle.parser_rules.specs.Runs.{Runs, does, seq, yes, no, done, again, child, call}
use Rattle.parser_rules.specs.State.{State, Lexeme, fault_report, add_all, flush, opened, moved, bump, noted, note}
use Rattle.parser_rules.specs.declared.message.Message.{Message}

-- ---- what waits goes into the tree

pub same-test : (test : Test) (state after : State) → flush after ≡ flush state → holds test state ≡ holds test after
unfolding flush
same-test test state after f = sym (test-same test state (built_of (flush state)) []) ∙ ap (holds test) (sym f)
    ∙ test-same test after (built_of (flush after)) []

note-flush : (message : Message) (state : State) → note message (flush state) ≡ flush (note message state)
unfolding note flush
note-flush message state = elim state.current as (λ o. noted message (flush state) o ≡ flush (noted message state o)) [
  | None ↦ refl
  | Some x ↦ elim state.accepts as
      (λ b. (if b then record (flush state) { errors = state.errors ++ fault_report message x ∷ [] } else flush state)
      ≡ flush (if b then record state { errors = state.errors ++ fault_report message x ∷ [] } else state))
      [ true ↦ refl | false ↦ refl ]
]

-- ---- one child

pub data Kid : Type 0 where
  leaf_of : Source → SyntaxKind → Kid
  node_of : SyntaxKind → TreesWithSources → Kid

abbrev pub alone : Kid → TreesWithSources
alone (leaf_of source kind) = leaf source kind none
alone (node_of kind trees) = node kind trees none

-- a run that adds one tree to the waiting leaves, and ends alike where some of that is in the tree already
abbrev pub One_more : Rule → State → State → Type 0
One_more rule state after =
    (kid : Kid) × Grown (flush state) after (alone kid)
    × ((later : State) → flush later ≡ flush state → Runs rule later after)

-- a rule that adds one tree where a token is
unfoldable one_child : ℕ → Rule → Bool
one_child n (When test rule other_rule) = one_child n rule and one_child n other_rule
one_child n (Child this_node) = true
one_child n (Seq (Do (Note message)) (Do (Bump own))) = true
one_child (suc n) (Call part) = one_child n (body part)
one_child n _ = false

module _ (message : Message) (own : SyntaxKind) (lexeme : Lexeme) (state : State)
    (e : state.current ≡ Some lexeme) where
  noted-current : (note message state).current ≡ Some lexeme
  noted-current = after-note (λ t. t.current ≡ Some lexeme) message state (λ errors. e)

  refused : bump own (note message state) ≡ moved own (note message (flush state)) (Some lexeme)
  unfolding bump flush
  refused = ap (moved own (note message state)) noted-current
      ∙ ap (λ u. moved own u (Some lexeme)) (sym (note-flush message state))

  refused-grown : Grown (flush state) (bump own (note message state)) (leaf (token lexeme) own none)
  unfolding bump flush
  refused-grown =
      let later : State = note message state in
      let still : Grown (flush state) (flush later) none =
      subst (λ z. Grown (flush state) z none) (note-flush message state)
      (grown-note message (flush state)) in
      subst (λ o. Grown (flush state) (moved own later o) (leaf (token lexeme) own none)) (sym noted-current)
      (grown-then (flush state) (flush later) (moved own later (Some lexeme)) none (leaf (token lexeme) own none) still
      (grown-leaf own lexeme (flush later) noted-current refl))

one-more : {rule : Rule} {state after : State} → Runs rule state after → (n : ℕ) (lexeme : Lexeme)
    → one_child n rule ≡ true → state.current ≡ Some lexeme
    → One_more rule state after
unfolding one_child step opened flush
one-more {state = state} (yes {test = test} e run) n lexeme c i = let o = one-more run n lexeme (and-l _ _ c) i in
    (o.0, o.1, λ z f. yes (e ∙ same-test test state z f) (o.2 z f))
one-more {state = state} (no {test = test} e run) n lexeme c i = let o = one-more run n lexeme (and-r _ _ c) i in
    (o.0, o.1, λ z f. no (e ∙ same-test test state z f) (o.2 z f))
one-more {state = state} (child {node = this_node} {after = after} {later = later_state} a b run) n lexeme d i =
    let fit : Fit (row_check.begins this_node) after after none =
    subst (λ (z : State). Fit (row_check.begins this_node) z z none) (sym a)
    (record { own = refl; later = refl; waits = λ k. refl }) in
    let l = walked row_check Fit sound run rules_deep (row_check.begins this_node) (row_check.ends (kind_of this_node))
    after none (node-passes this_node).row
    (grown-none after) fit in
    let grown : Grown (opened (kind_of this_node) state) later_state l.0 =
    subst (λ (z : State). Grown z later_state l.0) a l.1 in (
      node_of (kind_of this_node) l.0,
      subst (λ z. Grown (flush state) z (node (kind_of this_node) l.0 none)) (sym b)
          (grown-node (kind_of this_node) state later_state l.0 grown),
      λ z f. child (a ∙ ap (λ w. opened (kind_of this_node) w) (sym f)) b run,
    )
one-more {state = state} (seq {rule = Do (Note message)} {other_rule = Do (Bump own)} (does e) (does f)) n lexeme c i =
    let same = f ∙ ap (bump own) e in (
      leaf_of (token lexeme) own,
      subst (λ z. Grown (flush state) z (leaf (token lexeme) own none)) (sym same)
          (refused-grown message own lexeme state i),
      λ z g. seq (does refl) (does
          (same ∙ refused message own lexeme state i ∙ ap (λ u. moved own (note message u) (Some lexeme)) (sym g)
          ∙ sym (refused message own lexeme z (ap (λ (w : State). w.current) g ∙ i)))),
    )
one-more (call {part = part} run) (suc n) lexeme c i = let o = one-more run n lexeme c i in
    (o.0, o.1, λ z f. call (o.2 z f))
one-more _ n lexeme c i = false-true refl c

-- a turn
pub turn-one : {state after : State} → true ≡ holds Ready state → Runs (Call Definition) state after
    → One_more (Call Definition) state after
unfolding one_child body ◌and◌
turn-one {state = state} r run = let i = ready-there state r in one-more run 4 i.token refl i.is

-- ---- the loop

-- the trees that the turns from a state on add after the waiting leaves
abbrev pub behind : {state later : State} → Runs loops state later → built.Forest
behind (done e) = built.none
behind (again {after = after} e run second_run) =
    built.join (erase (alone (turn-one e run).0)) (built.join (parts_forest after.pending) (behind second_run))

pub added-behind : {state later : State} (run : Runs loops state later)
    → Added (built.join (parts_forest state.pending) (behind run)) state.tree (add_all later.pending later.tree)
unfolding flush
added-behind {state = state} (done e) =
    subst (λ x. Added x state.tree (add_all state.pending state.tree)) (sym (join-none (parts_forest state.pending)))
    (added-all state.pending state.tree)
added-behind {state = state} (again e this_run second_run) = added-then (added-all state.pending state.tree)
    (added-then (turn-one e this_run).1.trees (added-behind second_run))

-- a loop that is not over runs alike where some of the waiting leaves are in the tree already
pub loop-alike : {state later : State} → Runs loops state later → (after : State) → flush after ≡ flush state
    → (state ≡ later) ⊎ ((true ≡ holds Ready state) × Runs loops after later)
loop-alike (done e) after f = inl refl
loop-alike {state = state} (again e run second_run) after f =
    inr (e, again (e ∙ same-test Ready state after f) ((turn-one e run).2 after f) second_run)

-- the next child, where one tree follows
pub next-child : (kid : Kid) (tree : built.Tree) (trees : TreesWithSources) (forest later more_trees : built.Forest)
    → built.join (built.first tree forest) later ≡ built.join (erase (alone kid)) more_trees
    → (built.join (erase trees) (built.first tree forest) ≡ built.join (erase (append trees (alone kid))) forest)
    × (built.join forest later ≡ more_trees)
next-child kid tree trees forest later more_trees e =
    let c = cases kid tree e in (
      ap (built.join (erase trees)) c.0 ∙ sym (ap (λ y. built.join y forest) (erase-append trees (alone kid))
          ∙ join-assoc (erase trees) (erase (alone kid)) forest),
      c.1,
    )
  where
    cases : (kid : Kid) (tree : built.Tree)
        → built.join (built.first tree forest) later ≡ built.join (erase (alone kid)) more_trees
        → (built.first tree forest ≡ built.join (erase (alone kid)) forest) × (built.join forest later ≡ more_trees)
    cases (leaf_of source kind) (built.Leaf j y) e = (cc, cc)
    cases (node_of kind last_trees) (built.Node j kids) e = (cc, cc)
    cases _ _ e = absurd cc
