-- A type that is parsed by itself, over the answers: the machine follows the type's rule from where no root is open,
-- and the root that opens last is the type that the machine makes.
use Rattle.std.proofs.Common.{◌≡◌, ℕ, true, false, List, [], ◌∷◌, Option, Some, None, refl, sym, ap, ◌∙◌, subst, inl}
use Rattle.std.proofs.Common.{inr, true≢false}
use Rattle.lexical_grammar.specs.Answers.{Answer}
use Rattle.lexical_grammar.specs.declared.TokenKind.TheVariants as token
use Rattle.document_grammar.proofs.Added.{Added, added-wrap, added-node}
use Rattle.document_grammar.proofs.Booleans.{false-true}
use Rattle.document_grammar.specs.Booleans.{◌or◌}
use Rattle.document_grammar.specs.Builds.{Building, nothing, add_leaf, finish, wrap, built_count}
use Rattle.document_grammar.specs.Derivation.{type}
use Rattle.document_grammar.specs.Forests as built
use Rattle.document_grammar.specs.Kinds.{NON_NULL_TYPE}
use Rattle.document_grammar.specs.Numbered.{tree_of}
use Rattle.document_grammar.specs.Numbers.{number}
use Rattle.document_grammar.specs.Pattern.{member}
use Rattle.document_grammar.specs.Placed.{bare}
use Rattle.document_grammar.specs.Tree.{Text, Tree, leaf, node, Forest, none, ◌▸◌, ◌+++◌}
use Rattle.document_grammar.specs.declared.kind.SyntaxKind.{SyntaxKind}
use Rattle.document_grammar.specs.declared.kind.SyntaxKind.TheVariants as kind
use Rattle.grammar_machine.proofs.FromMachineTree.{show, type_of}
use Rattle.grammar_machine.proofs.Patterns.{label}
use Rattle.grammar_machine.proofs.Sound.{any, first-any}
use Rattle.grammar_machine.proofs.generated.Labels.{labels}
use Rattle.grammar_machine.specs.Symbols.{TYPE}
use Rattle.parser_rules.proofs.fragments.Parts.{Keeps, Starts, Outcome, part-starts, part-runs, part-out}
use Rattle.parser_rules.proofs.fragments.RootChecks.{type_rule, absent_rule, never, type_follows}
use Rattle.parser_rules.proofs.fragments.TypeRoots.{Nullable, list-first, name-first, unopened-none, unopened-waits}
use Rattle.parser_rules.proofs.fragments.TypeRoots.{still-none}
use Rattle.parser_rules.proofs.fragments.WrappedRuns.{wrapped-all}
use Rattle.parser_rules.proofs.reports.NoReport.{answers_tokens, EndsWell}
use Rattle.parser_rules.proofs.runs.Frame.{Adds, adds, parts_forest, added-all, read-untouched}
use Rattle.parser_rules.proofs.soundness.Positions.{ParserInput, RightlyReported, rightly-on, run-grows, unread-grows}
use Rattle.parser_rules.proofs.soundness.Positions.{wrapped-builds}
use Rattle.parser_rules.proofs.soundness.Roots.{input_of, Begins}
use Rattle.parser_rules.proofs.soundness.Settled.{settled-unwrapped}
use Rattle.parser_rules.proofs.soundness.TableCheck.{counts_itself, part_may_end}
use Rattle.parser_rules.proofs.soundness.WithoutIgnored.{Stack, stack, layers, strip, put, stack-added, stack-leaf}
use Rattle.parser_rules.specs.Fragments.{unopened, left_out, no_type_root, ClosesType, nullable, non_null, RunsTypeRoot}
use Rattle.parser_rules.specs.Fragments.{makes_list, makes_name, makes_none}
use Rattle.parser_rules.specs.RuleLanguage.{Here, At, holds, step, Do, Bump, Rule}
use Rattle.parser_rules.specs.Rules.{type_start}
use Rattle.parser_rules.specs.Runs.{Runs, skip, does, yes, no}
use Rattle.parser_rules.specs.State.{State, Lexeme, add_all, flush, closed, wrapped_from, moved, bump, is_at, finished}

-- ---- what is built

-- the trees of the innermost open node
abbrev here_of : Stack → Forest
here_of [] = none
here_of (layer ∷ more) = layer.1

stack-here : (building : Building) → here_of (stack building) ≡ strip building.here
stack-here building = (elim building.above as (λ above. here_of (layers building.here above) ≡ strip building.here)
    [ [] ↦ refl | o ∷ above ↦ refl ])

-- the root around all
root-tree : (this_kind : SyntaxKind) (state : State) → state.tree.above ≡ []
    → bare (tree_of (finished (left_out (wrapped_from 0 this_kind state))))
    ≡ node (number this_kind) (strip state.tree.here)
unfolding wrapped_from
root-tree this_kind state none_open =
    ap (λ (b : Building). bare (tree_of (finish b).here)) (wrapped-all this_kind state.tree none_open)

-- a type with more after it is not a type by itself
two-trees : (tree other_tree : Tree) (forest : Forest) → type_of (tree ▸ (forest +++ (other_tree ▸ none)))
    ≡ node NON_NULL_TYPE (tree ▸ (forest +++ (other_tree ▸ none)))
two-trees tree other_tree none = refl
two-trees tree other_tree (third_tree ▸ forest) = refl

-- the current token becomes a leaf, after the waiting ones
bump-tree : (this_kind : SyntaxKind) (state : State) (lexeme : Lexeme) → state.current ≡ Some lexeme
    → (bump this_kind state).tree ≡ add_leaf this_kind lexeme.text (add_all state.pending state.tree)
unfolding bump flush
bump-tree this_kind state lexeme e = ap (λ (o : Option Lexeme). (moved this_kind state o).tree) e
    ∙ (read-untouched state.items
    (record state { tree = add_leaf this_kind lexeme.text (add_all state.pending state.tree); pending = [] })).tree

-- so does a `!`
bang-tree : (state after : State) → true ≡ holds (At token.Bang) state → Runs (Do (Bump kind.BANG)) state after
    → (text : Text) × (stack after.tree
    ≡ put (leaf (number kind.BANG) text ▸ none) (put (strip (parts_forest state.pending)) (stack state.tree)))
unfolding holds step
bang-tree state after b (does e) = at state.current refl
  where
    at : (found : Option Lexeme) → state.current ≡ found → (x : Text) × (stack after.tree
        ≡ put (leaf (number kind.BANG) x ▸ none) (put (strip (parts_forest state.pending)) (stack state.tree)))
    at None i = absurd (true≢false (b ∙ ap (is_at token.Bang) i))
    at (Some x) i = (
      x.text,
      ap (λ (z : State). stack z.tree) e ∙ ap stack (bump-tree kind.BANG state x i)
          ∙ stack-leaf kind.BANG x.text (add_all state.pending state.tree) refl
          ∙ ap (put (leaf (number kind.BANG) x.text ▸ none)) (stack-added (added-all state.pending state.tree)),
    )

-- ---- the runs

module _ (max_depth : ℕ) (xs : List Answer) where
  abbrev R : ParserInput
  R = input_of type max_depth xs

  abbrev first : State
  first = unopened xs max_depth

  begins : Begins TYPE nothing
  unfolding counts_itself ◌or◌ member label labels
  begins = record { counted = refl; built = refl }

  abbrev keeps-type : Keeps type max_depth xs nothing (part_may_end TYPE) type_rule
  keeps-type = record { begins = begins; set = any; follows = type_follows.0; first = first-any (answers_tokens xs) }

  abbrev keeps-absent : Keeps type max_depth xs nothing never absent_rule
  keeps-absent = record { begins = begins; set = any; follows = type_follows.1; first = first-any (answers_tokens xs) }

  abbrev From : State → Type 0
  From after = Starts type max_depth xs nothing any → Outcome type max_depth xs after

  -- a report stays right when the root opens
  tell-root : (this_kind : SyntaxKind) (state : State) → RightlyReported R state
      → RightlyReported R (wrapped_from 0 this_kind state)
  tell-root this_kind state rightly_reported = rightly-on R state (wrapped_from 0 this_kind state)
      (unread-grows (wrapped-builds 0 this_kind state).reads_nothing) rightly_reported

  -- a report before the first token
  from-first : {rule : Rule} {later after : State} (this_kind : SyntaxKind) → EndsWell xs → Runs rule first later
      → after ≡ wrapped_from 0 this_kind later
      → From (wrapped_from 0 this_kind later) → Outcome type max_depth xs after
  from-first {later = later} this_kind ends_well run a on = subst (Outcome type max_depth xs) (sym a)
      (elim (part-starts type max_depth xs keeps-type ends_well) [
        | inl o ↦ inl (tell-root this_kind later (rightly-on R first later (run-grows run) o))
        | inr g ↦ on g
      ])

  -- no type
  absent : {state : State} → false ≡ holds (Here type_start) first → Runs no_type_root first state
      → From (wrapped_from 0 kind.ERROR state)
  absent {state = state} n run g = elim (part-runs type max_depth xs keeps-absent g (no n run)) [
    | inl o ↦ inl (tell-root kind.ERROR state o)
    | inr w ↦ false-true refl w.3
  ]

  -- a type, where the root's tree is the type that the type's rule built
  type-out : {last : State} (building : Building) → let after : State = record last { tree = building } in
      Runs type_rule first last → (RightlyReported R last → RightlyReported R after)
      → bare (tree_of (finished (left_out after))) ≡ type_of (here_of (stack last.tree)) → From after
  type-out {last = last} building run tells tree g =
      elim (part-out type max_depth xs last (part-runs type max_depth xs keeps-type g run)) [
        | inl o ↦ inl (tells o)
        | inr e ↦ (
            let shown : bare (tree_of (finished (left_out (record last { tree = building }))))
            ≡ show (node TYPE e.children) = tree
            ∙ ap (λ (l : Stack). type_of (here_of l)) e.built in
            inr (e.silent, rw shown (e.part building)))
      ]

  module _ {this_kind : SyntaxKind} {state : State} (second_nullable : Nullable first this_kind state) where
    abbrev index : ℕ
    index = built_count first.tree

    abbrev type_node : State
    type_node = closed (wrapped_from index this_kind state)

    more : Adds first state
    more = adds second_nullable.run

    -- the type's node, after the trees there
    one_more : Added (built.node this_kind more.more built.none) first.tree type_node.tree
    unfolding closed wrapped_from
    one_more = added-node this_kind (added-wrap this_kind more.trees)

    node-built : Starts type max_depth xs nothing any
        → stack type_node.tree ≡ (0, node (number this_kind) (strip more.more) ▸ none) ∷ []
    node-built starts = stack-added one_more ∙ ap (put (strip (built.node this_kind more.more built.none))) starts.built

    -- no `!` comes next
    alone : false ≡ holds (At token.Bang) state → From (wrapped_from 0 this_kind state)
    unfolding holds closed wrapped_from
    alone b g =
        let kids : strip state.tree.here ≡ strip more.more = sym (stack-here state.tree)
        ∙ ap here_of (stack-added more.trees ∙ ap (put (strip more.more)) g.built) in
        let tree : bare (tree_of (finished (left_out (wrapped_from 0 this_kind state))))
        ≡ type_of (here_of (stack type_node.tree)) =
        root-tree this_kind state (still-none second_nullable.run (unopened-none xs max_depth))
        ∙ ap (node (number this_kind)) kids
        ∙ sym (ap (λ (l : Stack). type_of (here_of l)) (node-built g)) in
        type-out (wrap 0 this_kind state.tree) (yes second_nullable.starts (second_nullable.before (no b skip)))
        (λ o. tell-root this_kind state (tells o)) tree g
      where
        tells : RightlyReported R type_node → RightlyReported R state
        tells o = record {
          report = o.report;
          more = o.more;
          reported = o.reported;
          taken = o.taken;
          right = o.right;
          settled = settled-unwrapped o.taken one_more more.trees o.settled;
        }

    -- the `!` is taken
    bang-run : {end_state : State} → true ≡ holds (At token.Bang) state → Runs (Do (Bump kind.BANG)) type_node end_state
        → Runs type_rule first end_state
    unfolding holds closed wrapped_from
    bang-run b run = yes second_nullable.starts (second_nullable.before (yes b run))

    with-bang : {end_state : State} → true ≡ holds (At token.Bang) state
        → Runs (Do (Bump kind.BANG)) type_node end_state
        → From (wrapped_from 0 kind.NON_NULL_TYPE end_state)
    unfolding holds closed wrapped_from
    with-bang {end_state = end_state} b run g =
        let bang = bang-tree type_node end_state b run in
        let kids : Forest = (node (number this_kind) (strip more.more) ▸ none)
        +++ strip (parts_forest state.pending) +++
        (leaf (number kind.BANG) bang.0 ▸ none) in
        let are : here_of (stack end_state.tree) ≡ kids = ap here_of (bang.1 ∙ ap
        (λ (l : Stack). put (leaf (number kind.BANG) bang.0 ▸ none) (put (strip (parts_forest state.pending)) l))
        (node-built g)) in
        let tree : bare (tree_of (finished (left_out (wrapped_from 0 kind.NON_NULL_TYPE end_state))))
        ≡ type_of (here_of (stack end_state.tree)) =
        root-tree kind.NON_NULL_TYPE end_state (still-none (bang-run b run) (unopened-none xs max_depth))
        ∙ ap (node NON_NULL_TYPE) (sym (stack-here end_state.tree) ∙ are)
        ∙ sym (ap type_of are ∙ two-trees _ _ (strip (parts_forest state.pending))) in
        type-out (wrap 0 kind.NON_NULL_TYPE end_state.tree) (bang-run b run)
        (tell-root kind.NON_NULL_TYPE end_state) tree g

    nullable-outcome : {after : State} → EndsWell xs → ClosesType index this_kind state after
        → Outcome type max_depth xs after
    nullable-outcome ends_well (nullable b a) = from-first this_kind ends_well second_nullable.run a (alone b)
    nullable-outcome ends_well (non_null b run a) =
        from-first kind.NON_NULL_TYPE ends_well (bang-run b run) a (with-bang b run)

  pub type-parsed : {state : State} → EndsWell xs → RunsTypeRoot first state → Outcome type max_depth xs state
  type-parsed ends_well (makes_list b run close) =
      nullable-outcome (list-first (unopened-waits xs max_depth) b run) ends_well close
  type-parsed ends_well (makes_name b n run close) =
      nullable-outcome (name-first (unopened-waits xs max_depth) b n run) ends_well close
  type-parsed ends_well (makes_none n run a) = from-first kind.ERROR ends_well run a (absent n run)
