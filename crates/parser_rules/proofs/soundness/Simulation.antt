-- The simulation: each run of a rule that keeps to the machine's table follows the machine, or its first report is
-- right.
--
-- It is one induction over runs (`simulation`). What is carried along is that the state fits a position and the two
-- sets of the check (`StateFits`), and that the check of the rest holds there; a run ends with the same for the rest
-- after it, or with a right first report (`RunOutcome`). The other lemmas are the cases of that induction that are not
-- one line.
--
-- The names are those of `TableCheck`; besides: `R` is the parser's input, `n` the fuel, `fs` the machine's open nodes
-- above the innermost one, `st`, `next_state`, `later` and `last` are states of the parser in the order of the run,
-- `state_fits` says that the first of them fits, and `h` is the check.
use Rattle.std.proofs.Common.{◌≡◌, ℕ, zero, suc, ◌+◌, ◌<◌, max, Bool, true, false, cond, eqb, List, [], ◌∷◌, refl, sym}
use Rattle.std.proofs.Common.{ap, ◌∙◌, subst, inl, inr, eqb-true, leb-false}
use Rattle.std.specs.Prelude.{⊤}
use Rattle.lexical_grammar.specs.declared.TokenKind.TheVariants as token
use Rattle.document_grammar.proofs.Booleans.{either, false-true, and-l, and-r, or-c, not-c}
use Rattle.document_grammar.specs.Booleans.{◌and◌}
use Rattle.document_grammar.specs.Builds.{built_count}
use Rattle.document_grammar.specs.Kinds.{BANG, NON_NULL_TYPE}
use Rattle.document_grammar.specs.Tree.{Text, Tree, leaf, node, Forest, none, ◌▸◌, ◌+++◌}
use Rattle.document_grammar.specs.declared.kind.SyntaxKind.TheVariants as kind
use Rattle.grammar_machine.proofs.Checks.{subset}
use Rattle.grammar_machine.proofs.Depth.{nesting_all}
use Rattle.grammar_machine.proofs.FromMachineTree.{shows, show}
use Rattle.grammar_machine.proofs.MachineTheorems.{no-leaf as start-no-leaf}
use Rattle.grammar_machine.proofs.Sound.{any, reach-sound}
use Rattle.grammar_machine.specs.Machine.{holds as within, is_leaf, exit, target, Frame, frame, Path}
use Rattle.grammar_machine.specs.Symbols.{TYPE}
use Rattle.parser_rules.proofs.NodeChecks.{node-passes}
use Rattle.parser_rules.proofs.lookahead.FirstSets.{first_of, second_of, inlined}
use Rattle.parser_rules.proofs.lookahead.MachineClasses.{sees-next}
use Rattle.parser_rules.proofs.lookahead.Split.{Level, NotEntered, Entered, Left, Certainty, Nothing}
use Rattle.parser_rules.proofs.lookahead.Split.{OpenWhateverFollows, AtLimit, Position, in_row, machine_is_stuck}
use Rattle.parser_rules.proofs.lookahead.Split.{with_limit_known, divide, divide-at, at_start}
use Rattle.parser_rules.proofs.lookahead.TokenSets.{class_of, seen-more, near-at}
use Rattle.parser_rules.proofs.reports.NoReport.{rest, Grows, grows-on}
use Rattle.parser_rules.proofs.runs.Frame.{Adds, adds}
use Rattle.parser_rules.proofs.runs.Fuel.{rules_deep}
use Rattle.parser_rules.proofs.soundness.MachineStack.{image, image-some, image-plain, show-bang, stack-wrap}
use Rattle.parser_rules.proofs.soundness.Moves.{next-classes, stuck-at, report-right, made-passes, goes-deeper}
use Rattle.parser_rules.proofs.soundness.Moves.{too-many, flushed, Shaped, token-taken, bump-outcome, begun, node-begun}
use Rattle.parser_rules.proofs.soundness.Moves.{ended, inlined-ended, rightly-closed, with-sets, node-outcome}
use Rattle.parser_rules.proofs.soundness.Moves.{inlined-outcome, stuck-outcome}
use Rattle.parser_rules.proofs.soundness.Positions.{ParserInput, unread-rest, OnlyBuilds, same-builds, flush-builds}
use Rattle.parser_rules.proofs.soundness.Positions.{opened-builds, closed-builds, wrapped-builds, renested}
use Rattle.parser_rules.proofs.soundness.Positions.{leave-unread, unread-seen, unread-grows, run-grows, top, Made}
use Rattle.parser_rules.proofs.soundness.Positions.{OpenNodesAgree, PositionHolds, StateFits, Continues, RunOutcome}
use Rattle.parser_rules.proofs.soundness.Positions.{rightly-on, limit-known-holds, certainty-forgotten, start_begins}
use Rattle.parser_rules.proofs.soundness.Positions.{unread-no-report, shown, note-rightly, limit-rightly, taken-at}
use Rattle.parser_rules.proofs.soundness.Positions.{unread-stuck, leveled-enter, leveled-leave, still-leveled, moved-on}
use Rattle.parser_rules.proofs.soundness.Settled.{fitting-image, fitting-path}
use Rattle.parser_rules.proofs.soundness.TableCheck.{LoopState, most_turns, Then, same_level, same_certainty}
use Rattle.parser_rules.proofs.soundness.TableCheck.{limit_forgotten, same_position, covered, turns, levels_agree}
use Rattle.parser_rules.proofs.soundness.TableCheck.{level_is_entered, level_left, takes_token, after_node}
use Rattle.parser_rules.proofs.soundness.TableCheck.{after_inlined, after_stuck_node, child_begins, child_while_stuck}
use Rattle.parser_rules.proofs.soundness.TableCheck.{child_at, may_report_limit, enters_level, after_type, type_at}
use Rattle.parser_rules.proofs.soundness.TableCheck.{keeps_to_table, node_may_end, follows_table, bang_follows}
use Rattle.parser_rules.proofs.soundness.TableCheck.{no_bang_follows}
use Rattle.parser_rules.proofs.soundness.WithoutIgnored.{put-none, Stack, stack, put, stack-finish}
use Rattle.parser_rules.specs.Nodes.{Node, symbol as symbol_of, kind_of}
use Rattle.parser_rules.specs.RuleLanguage.{Test, At, holds, Prim, Bump, Note, step, Rule, While, Nested}
use Rattle.parser_rules.specs.Rules.{inside, body}
use Rattle.parser_rules.specs.Runs.{Runs, skip, does, seq, yes, no, done, again, child, limited, deeper, refused, call}
use Rattle.parser_rules.specs.Runs.{plain, wrapped}
use Rattle.parser_rules.specs.State.{State, flush, opened, closed, wrapped_from, bump, is_deep, enter, leave}

module _ (R : ParserInput) where
  open R use {words as w}

  -- ---- loops

  level-same : (level other_level : Level) → same_level level other_level ≡ true → level ≡ other_level
  level-same NotEntered NotEntered h = refl
  level-same Entered Entered h = refl
  level-same Left Left h = refl
  level-same _ _ h = false-true refl h

  certainty-same : (certainty other_certainty : Certainty) → same_certainty certainty other_certainty ≡ true
      → certainty ≡ other_certainty
  certainty-same Nothing Nothing h = refl
  certainty-same OpenWhateverFollows OpenWhateverFollows h = refl
  certainty-same AtLimit AtLimit h = refl
  certainty-same _ _ h = false-true refl h

  position-same : (position other_position : Position) → same_position position other_position ≡ true
      → position ≡ other_position
  position-same (in_row p level certainty) (in_row state other_level other_certainty) h =
      let i = eqb-true p state (and-l _ _ h) in
      let j = level-same level other_level (and-l _ _ (and-r _ _ h)) in let k =
      certainty-same certainty other_certainty (and-r _ _ (and-r _ _ h)) in
      cc (i, j, k)
  position-same machine_is_stuck machine_is_stuck h = refl
  position-same _ _ h = false-true refl h

  -- The check of each state of the loop that was met: a turn that comes back to one is walked by that check again, so a
  -- loop needs no fuel for its number of turns.
  Met : (Position → ℕ → ℕ → Then → Bool) → List LoopState → Type 0
  Met turn [] = ⊤
  Met turn (loop_state ∷ h) =
      ((n : ℕ) × (turn loop_state.position loop_state.now loop_state.after (turns n turn (loop_state ∷ h)) ≡ true))
      × Met turn h

  -- a state of the loop at which a turn begins, with its check
  record LoopHead (turn : Position → ℕ → ℕ → Then → Bool) (symbol : ℕ) (fs : List Frame) (st : State) : Type 0 where
    count : ℕ
    states : List LoopState
    met : Met turn states
    goes_on : Continues R symbol fs (λ p x y. turn p x y (turns count turn states)) st

  -- where a state was met that covers this one, the turn goes on from there: its sets are larger, and the parser's
  -- state fits them too
  met-at : (turn : Position → ℕ → ℕ → Then → Bool) (symbol : ℕ) (position : Position) (now after : ℕ) (fs : List Frame)
      (st : State) (h : List LoopState)
      → covered position now after h ≡ true → Met turn h → StateFits R symbol position now after fs st
      → LoopHead turn symbol fs st
  unfolding covered Met
  met-at turn symbol position now after fs st [] c m state_fits = false-true refl c
  met-at turn symbol position now after fs st (loop_state ∷ h) c e state_fits = elim (or-c _ _ c) [
    | inl i ↦ (
        let f = subst (λ (z : Position). StateFits R symbol z now after fs st)
        (position-same position loop_state.position (and-l _ _ i)) state_fits in
        record {
          count = e.0.0;
          states = loop_state ∷ h;
          met = e;
          goes_on = (
            loop_state.position,
            loop_state.now,
            loop_state.after,
            e.0.1,
            with-sets R f (seen-more now after loop_state.now loop_state.after st (and-r _ _ i) state_fits.seen),
          );
        })
    | inr i ↦ met-at turn symbol position now after fs st h i e.1 state_fits
  ]

  -- each turn begins at a state of the loop: one that was met, or a new one, which is met from now on
  head-at : (turn : Position → ℕ → ℕ → Then → Bool) (n symbol : ℕ) (this_position : Position) (x y : ℕ)
      (fs : List Frame) (st : State) (h : List LoopState)
      → turns n turn h this_position x y ≡ true → Met turn h → StateFits R symbol this_position x y fs st
      → LoopHead turn symbol fs st
  unfolding turns Met
  head-at turn zero symbol this_position x y fs st h c m state_fits =
      met-at turn symbol this_position x y fs st h c m state_fits
  head-at turn (suc n) symbol this_position x y fs st h c m state_fits = elim (either (covered this_position x y h)) [
    | inl i ↦ met-at turn symbol this_position x y fs st h i m state_fits
    | inr i ↦ let d = rw (turns, i) at c in record {
      count = n;
      states = record { position = this_position; now = x; after = y } ∷ h;
      met = ((n, d), m);
      goes_on = (this_position, x, y, d, state_fits);
    }
  ]

  -- A test: the check has split the sets, so it holds for the branch that is taken, with the part of the sets that the
  -- tokens are in.
  branch : (test : Test) (b : Bool) (symbol : ℕ) (fs : List Frame) (st : State) (then next_then : Then)
      → b ≡ holds test st
      → Continues R symbol fs (λ p x y. divide (λ a b. a and b) true test p x y then next_then) st
      → Continues R symbol fs (cond b then next_then) st
  branch test b symbol fs st then next_then e (p, x, y, h, c) =
      let r = divide-at st (λ (p : Position). PositionHolds R symbol p fs st) (limit-known-holds R symbol fs st) test
      b p x y then next_then
      (shown R st c.no_report) e h c.seen c.position in
      (r.0, r.1, r.2, r.3, record { no_report = c.no_report; seen = r.4; position = r.5 })

  -- ---- runs

  -- the check of one turn of a loop, where `next` is what follows the turn
  abbrev loop_turn : ℕ → ℕ → Test → Rule → Then → Position → ℕ → ℕ → Then → Bool
  loop_turn n symbol test rule then position u v next = divide (λ a' b'. a' and b') true test position u v
      (λ q' u' v'. keeps_to_table n symbol q' u' v' rule next) then

  -- What is asked of a rule. A loop's run is another run of the loop after a turn, so for a loop it is not the check
  -- from the loop's beginning, but the check of the turns that are left, with the states that were met.
  pub Checked : ℕ → ℕ → Position → ℕ → ℕ → Rule → Then → Type 0
  Checked n symbol position now after (While test rule) then = (j : ℕ) × (h : List LoopState)
      × (turns j (loop_turn n symbol test rule then) h position now after ≡ true)
      × Met (loop_turn n symbol test rule then) h
  Checked n symbol position now after rule then = keeps_to_table n symbol position now after rule then ≡ true

  pub checked : (n symbol : ℕ) (position : Position) (now after : ℕ) (rule : Rule) (then : Then)
      → keeps_to_table n symbol position now after rule then ≡ true
      → Checked n symbol position now after rule then
  unfolding Checked keeps_to_table Met
  checked n symbol position now after (While test rule) then h = (most_turns, [], h, tt)
  checked n symbol position now after _ then h = h

  -- what the induction says of a run: from any position and sets for which the check holds and that the first state
  -- fits
  abbrev Simulates : Rule → State → State → Type 0
  Simulates rule next_state later = (n symbol : ℕ) (position : Position) (now after : ℕ) (fs : List Frame) (then : Then)
      → Checked n symbol position now after rule then → StateFits R symbol position now after fs next_state
      → RunOutcome R symbol fs then later

  simulated : (rule : Rule) {next_state later : State} → Simulates rule next_state later
      → (n symbol : ℕ) (fs : List Frame) (then : Then)
      → Continues R symbol fs (λ p x y. keeps_to_table n symbol p x y rule then) next_state
      → RunOutcome R symbol fs then later
  simulated rule walk n symbol fs then (p, x, y, h, g) =
      walk n symbol p x y fs then (checked n symbol p x y rule then h) g

  -- One run after another: where the first one has reported, what is built later leaves that report right (`Grows`).
  then-on : (symbol : ℕ) (fs : List Frame) (then next_then : Then) (next_state later : State) → Grows next_state later
      → (Continues R symbol fs then next_state → RunOutcome R symbol fs next_then later)
      → RunOutcome R symbol fs then next_state
      → RunOutcome R symbol fs next_then later
  then-on symbol fs then next_then next_state later grows on (inl o) = inl (rightly-on R next_state later grows o)
  then-on symbol fs then next_then next_state later grows on (inr o) = on o

  -- The machine begins the node. An inlined one is walked in its parent's check, with the knowledge of the next two
  -- tokens; of any other the check of its kind is taken, which holds for all tokens that may begin it, with fuel of its
  -- own: so the nesting of a text needs no fuel.
  node-begins : (n symbol state now after : ℕ) (level : Level) (certainty : Certainty) (this_node : Node)
      (fs : List Frame) (then : Then)
      (st next_state u : State) → next_state ≡ opened (kind_of this_node) st → Simulates (inside this_node) next_state u
      → child_begins symbol state level now after this_node then
      (λ u v k'. keeps_to_table n (symbol_of this_node) at_start u v (inside this_node) k') ≡ true
      → StateFits R symbol (in_row state level certainty) now after fs st → RunOutcome R symbol fs then (closed u)
  unfolding child_begins follows_table
  node-begins n symbol state now after level certainty this_node fs then st next_state later e walk h state_fits =
      let j : ℕ = symbol_of this_node in
      let position : Position = in_row (target symbol state j) level OpenWhateverFollows in
      let gs : List Frame = frame symbol state state_fits.position.0.children ∷ fs in
      let agree : levels_agree symbol level j ≡ true = and-r _ _ (and-l _ _ h) in
      let second_state_fits : StateFits R j at_start now after gs next_state =
      rw e (node-begun R this_node state_fits (and-l _ _ (and-l _ _ h)) agree) in
      (elim (inlined this_node) as
      (λ i. cond i (keeps_to_table n j at_start now after (inside this_node) (after_inlined j position then))
      ((subset now (first_of this_node) and subset after (second_of this_node)) and after_node position this_node then)
      ≡ true
      → RunOutcome R symbol fs then (closed later)) [
        | true ↦ λ m. inlined-outcome R this_node then later state_fits.position.0 agree
            (simulated (inside this_node) walk n j gs (after_inlined j position then)
            (at_start, now, after, m, second_state_fits))
        | false ↦ λ m. node-outcome R this_node then later state_fits.position.0 agree (and-r _ _ m)
            (simulated (inside this_node) walk rules_deep j gs (node_may_end this_node) (
              at_start,
              first_of this_node,
              second_of this_node,
              and-r _ _ (node-passes this_node).table,
              with-sets R second_state_fits
                  (seen-more now after _ _ next_state (and-l _ _ m) second_state_fits.seen),
            ))
      ]) (and-r _ _ h)

  -- The machine is stuck before the node. The rule goes on until its first report, which is then right, whatever nodes
  -- are opened before that; the machine's open nodes stay those of the parent.
  begins-while-stuck : (n symbol now after : ℕ) (this_node : Node) (fs : List Frame) (then : Then)
      (st next_state later : State)
      → next_state ≡ opened (kind_of this_node) st → Simulates (inside this_node) next_state later
      → keeps_to_table n symbol machine_is_stuck now after (inside this_node) (after_stuck_node then) ≡ true
      → StateFits R symbol machine_is_stuck now after fs st → RunOutcome R symbol fs then (closed later)
  begins-while-stuck n symbol now after this_node fs then st next_state later e walk h state_fits =
      let a = (opened-builds (kind_of this_node) st).reads_nothing in
      stuck-outcome R then later (simulated (inside this_node) walk n symbol fs (after_stuck_node then) (
        machine_is_stuck,
        now,
        after,
        h,
        rw e (moved-on R state_fits a (unread-stuck R a state_fits.position)),
      ))

  -- A node is the machine's exactly where the current token may begin it, so both cases are checked, and the token
  -- decides.
  child-simulated : (n symbol : ℕ) (this_position : Position) (now after : ℕ) (this_node : Node) (fs : List Frame)
      (then : Then) (st next_state u : State)
      → next_state ≡ opened (kind_of this_node) st → Simulates (inside this_node) next_state u
      → child_at symbol this_position now after this_node then
      (λ u v k'. keeps_to_table n (symbol_of this_node) at_start u v (inside this_node) k')
      (λ u v. keeps_to_table n symbol machine_is_stuck u v (inside this_node) (after_stuck_node then)) ≡ true
      → StateFits R symbol this_position now after fs st → RunOutcome R symbol fs then (closed u)
  unfolding child_at child_while_stuck
  child-simulated n symbol machine_is_stuck now after this_node fs then st next_state later e walk h state_fits =
      begins-while-stuck n symbol now after this_node fs then st next_state later e walk h state_fits
  child-simulated n symbol (in_row state level certainty) now after this_node fs then st next_state u e walk
      h state_fits =
      let f : ℕ → ℕ → Bool = λ u v. child_begins symbol state level u v this_node then
      (λ u v k'. keeps_to_table n (symbol_of this_node) at_start u v (inside this_node) k') in
      let f' : ℕ → ℕ → Bool =
      λ u v. child_while_stuck symbol state u v
      (λ u v. keeps_to_table n symbol machine_is_stuck u v (inside this_node)
      (after_stuck_node then)) in
      elim (either (within (class_of st.current) (first_of this_node))) [
        | inl i ↦ (let r = near-at true (first_of this_node) now after f f' st (sym i) h state_fits.seen in
            node-begins n symbol state r.0 r.1 level certainty this_node fs then st next_state u e walk r.2
            (with-sets R state_fits r.3))
        | inr i ↦ (
            let r = near-at false (first_of this_node) now after f f' st (sym i) h state_fits.seen in
            begins-while-stuck n symbol r.0 r.1 this_node fs then st next_state u e walk (and-r _ _ r.2)
            (record {
              no_report = state_fits.no_report;
              seen = r.3;
              position = stuck-at R (with-sets R state_fits r.3) (and-l _ _ r.2);
            }))
      ]

  -- ---- types

  -- The machine opens its node of a type before it is known whether a `!` follows. The builder opens a node only when
  -- one does, around what was added since: so in between the machine has one open node more than the builder.

  type-begins : (n symbol state now after : ℕ) (level : Level) (certainty : Certainty) (rule : Rule)
      (fs : List Frame) (then : Then)
      (st next_state later : State) → next_state ≡ flush st → Simulates rule next_state later
      → type_at symbol (in_row state level certainty) now after then
      (λ k'. keeps_to_table n TYPE at_start now after rule k') ≡ true
      → (state_fits : StateFits R symbol (in_row state level certainty) now after fs st)
      → RunOutcome R TYPE (frame symbol state state_fits.position.0.children ∷ fs)
      (after_type (in_row (target symbol state TYPE) level OpenWhateverFollows) then) later
  unfolding type_at flush is_leaf
  type-begins n symbol state now after level certainty rule fs then st next_state later e walk h state_fits =
      let gs : List Frame = frame symbol state state_fits.position.0.children ∷ fs in
      let m = and-l _ _ h in
      let second_state_fits : StateFits R TYPE at_start now after gs (flush st) =
      begun R TYPE state_fits refl refl (and-l _ _ m) (and-l _ _ (and-r _ _ m))
      (flush-builds st) (λ i. flushed R st state_fits.no_report ∙ (i ∙ sym (put-none (image gs)))) in
      simulated rule walk n TYPE gs (after_type (in_row (target symbol state TYPE) level OpenWhateverFollows) then) (
        at_start,
        now,
        after,
        and-r _ _ h,
        rw e second_state_fits,
      )

  -- one child of the type is there
  one-path : {state : ℕ} {level : Level} {fs : List Frame} {later : State}
      (open_nodes_agree : OpenNodesAgree R TYPE state level fs later) → eqb state 1 ≡ true
      → Path TYPE 0 open_nodes_agree.children 1
  one-path open_nodes_agree e = subst (λ (n : ℕ). Path TYPE 0 open_nodes_agree.children n) (eqb-true _ _ e)
      (reach-sound (start-no-leaf (top R) (start_begins R)) open_nodes_agree.machine.reach).1

  -- no `!` follows: the machine ends its node, of which the builder has the child alone
  plain-type : (n symbol : ℕ) (position : Position) (now after : ℕ) (rule : Rule) (fs : List Frame) (then : Then)
      (st next_state later : State)
      → next_state ≡ flush st → Simulates rule next_state later → false ≡ holds (At token.Bang) later
      → type_at symbol position now after then (λ k'. keeps_to_table n TYPE at_start now after rule k') ≡ true
      → StateFits R symbol position now after fs st
      → RunOutcome R symbol fs then later
  unfolding type_at after_type
  plain-type n symbol machine_is_stuck now after rule fs then st next_state later e walk b h state_fits =
      false-true refl h
  plain-type n symbol (in_row state level certainty) x y rule fs then st t later e walk b h state_fits =
      elim (type-begins n symbol state x y level certainty rule fs then st t later e walk h state_fits) [
        | inl o ↦ inl o
        | inr o ↦ inr (on (branch (At token.Bang) false TYPE gs later (bang_follows p then) (no_bang_follows p then)
            b o))
      ]
    where
      p : Position
      p = in_row (target symbol state TYPE) level OpenWhateverFollows

      gs : List Frame
      gs = frame symbol state state_fits.position.0.children ∷ fs

      on : Continues R TYPE gs (no_bang_follows p then) later → Continues R symbol fs then later
      on (machine_is_stuck, x, y, t, i) = false-true refl (and-l _ _ t)
      on (in_row q' other_level certainty, x, y, t, i) =
          inlined-ended R state_fits.position.0 then (and-l _ _ (and-r _ _ (and-l _ _ h))) (and-r _ _ t) i
          (same-builds later)
          (i.position.0.built ∙ image-plain symbol state state state_fits.position.0.children i.position.0.children fs
          (one-path i.position.0 (and-l _ _ t)))

  -- the builder's NON_NULL_TYPE is closed, which is what the machine's node is shown as
  bang-built : (forest : Forest) (fs : List Frame) (last : State) (text : Text) → Path TYPE 0 forest 1
      → stack last.tree ≡ (NON_NULL_TYPE, shows (forest +++ (leaf BANG text ▸ none))) ∷ image fs
      → stack (closed last).tree ≡ put (show (node TYPE (forest +++ (leaf BANG text ▸ none))) ▸ none) (image fs)
  unfolding closed
  bang-built forest fs last text path e =
      stack-finish last.tree (NON_NULL_TYPE, shows (forest +++ (leaf BANG text ▸ none))) (image fs) (image-some fs) e
      ∙ ap (λ (t : Tree). put (t ▸ none) (image fs)) (sym (show-bang forest text path))

  -- A `!` follows: from the wrap on the builder has the machine's node, so the `!` is taken as any token is, but with
  -- this node innermost (`shape`).
  wrapped-type : (n symbol : ℕ) (this_position : Position) (now after : ℕ) (rule : Rule) (fs : List Frame) (then : Then)
      (st next_state later last state : State) → next_state ≡ flush st → Simulates rule next_state later
      → Adds next_state later
      → last ≡ wrapped_from (built_count next_state.tree) kind.NON_NULL_TYPE later → Grows last state
      → state ≡ bump kind.BANG last
      → true ≡ holds (At token.Bang) later
      → type_at symbol this_position now after then (λ k'. keeps_to_table n TYPE at_start now after rule k') ≡ true
      → StateFits R symbol this_position now after fs st → RunOutcome R symbol fs then (closed state)
  unfolding type_at after_type takes_token after_inlined flush wrapped_from
  wrapped-type n symbol machine_is_stuck now after rule fs then st next_state later last state e walk added i gr j b h
      state_fits = false-true refl h
  wrapped-type n symbol (in_row q level certainty) x y rule fs then st t later last state e walk added i gr j b h g =
      elim (type-begins n symbol q x y level certainty rule fs then st t later e walk h g) [
        | inl o ↦ inl (rightly-closed R state
            (rightly-on R later state (grows-on later last state (unread-grows al.reads_nothing) gr) o))
        | inr o ↦ on (branch (At token.Bang) true TYPE gs later (bang_follows p then) (no_bang_follows p then) b o)
      ]
    where
      p : Position
      p = in_row (target symbol q TYPE) level OpenWhateverFollows

      gs : List Frame
      gs = frame symbol q g.position.0.children ∷ fs

      none_equal : eqb symbol TYPE ≡ false
      none_equal = not-c _ (and-r _ _ (and-r _ _ (and-l _ _ h)))

      al : OnlyBuilds later last
      al = rw i (wrapped-builds (built_count t.tree) kind.NON_NULL_TYPE later)

      -- the builder's open nodes: the node of the `!` and of the type before it is new
      shape : Forest → Stack
      shape f = (NON_NULL_TYPE, f) ∷ image gs

      shaped : Shaped R TYPE gs shape
      shaped = record {
        joins = λ f g. refl;
        fits = λ q f r o. let h = reach-sound (start-no-leaf (top R) (start_begins R)) o in
            fitting-path TYPE 0 q NON_NULL_TYPE f gs (image gs) h.0 h.1 (fitting-image (top R) gs h.3);
      }

      before : stack t.tree ≡ image gs
      before = ap (λ (z : State). stack z.tree) e ∙ (flushed R st g.no_report ∙ g.position.0.built)

      on : Continues R TYPE gs (bang_follows p then) later → RunOutcome R symbol fs then (closed state)
      on (machine_is_stuck, x, y, t, c) = false-true refl (and-l _ _ t)
      on (in_row q' other_level certainty, x, y, t', c) =
          let f : Forest = c.position.0.children in
          let built : stack last.tree ≡ shape (shows f) = ap (λ (z : State). stack z.tree) i
          ∙ stack-wrap symbol q q' g.position.0.children f fs t.tree later.tree added.more none_equal added.trees.above
          added.trees.here before
          c.position.0.built in
          subst (λ (z : State). RunOutcome R symbol fs then (closed z)) (sym j) (elim
          (token-taken R kind.BANG TYPE q' BANG x y other_level certainty f gs last shape
          (λ P. after_inlined TYPE p then P y any) (and-r _ _ t') shaped
          (record {
            reach = rw (unread-rest al.reads_nothing) c.position.0.machine.reach;
            leveled = still-leveled R al c.position.0.machine.leveled;
            alone = c.position.0.machine.alone;
          })
          built (unread-no-report R al.reads_nothing c.no_report) (unread-seen x y al.reads_nothing c.seen)) [
            | inl o ↦ inl (rightly-closed R (bump kind.BANG last) o)
            | inr o ↦ (
                let w'' : State = bump kind.BANG last in
                let forest : Forest = f +++ (leaf BANG o.first.1 ▸ none) in
                let c' = and-r _ _ (and-r _ _ (and-r _ _ t')) in
                let done : stack (closed w'').tree ≡ put (show (node TYPE forest) ▸ none) (image gs) =
                bang-built f gs w'' o.first.1
                (one-path c.position.0 (and-l _ _ t')) o.built in
                inr (
                  in_row (target symbol q TYPE + exit TYPE (target TYPE q' BANG)) level OpenWhateverFollows,
                  y,
                  any,
                  and-r _ _ c',
                  record {
                    no_report = unread-no-report R (closed-builds w'').reads_nothing o.no_report;
                    seen = unread-seen y any (closed-builds w'').reads_nothing o.seen;
                    position = ended R g.position.0 OpenWhateverFollows y
                        (and-l _ _ (and-r _ _ (and-l _ _ h))) (and-l _ _ c')
                        (sees-next y any w'' o.no_report.now o.seen).near o.certain o.machine (closed-builds w'') done;
                  },
                ))
          ])

  -- ---- a level is entered and left

  -- A level is entered only where each tree that goes on nests deeper (`goes-deeper`). So at every state the tree that
  -- the machine goes on to make nests at least as deep as the greatest depth; when the root ends, it nests no deeper.

  level-simulated : (n symbol : ℕ) (position : Position) (now after : ℕ) (rule other_rule : Rule)
      (fs : List Frame) (then : Then)
      (st next_state later last state : State) → false ≡ is_deep st → next_state ≡ enter st → last ≡ leave later
      → Simulates rule next_state later
      → Simulates other_rule last state → Grows last state
      → keeps_to_table n symbol position now after (Nested rule other_rule) then ≡ true
      → StateFits R symbol position now after fs st → RunOutcome R symbol fs then state
  unfolding keeps_to_table enters_level may_report_limit is_deep enter leave
  level-simulated n symbol machine_is_stuck now after rule other_rule fs then st next_state later last state e i j walk
      walk' gr h state_fits =
      false-true refl (and-l _ _ h)
  level-simulated n symbol (in_row q level certainty) x y rule other_rule fs then st t later last state e i j walk
      walk' gr h g =
      then-on symbol fs inner then later state (grows-on later last state (unread-grows (leave-unread j)) gr) after_it
      (simulated rule walk n symbol fs inner (
        in_row q Entered (limit_forgotten certainty),
        x,
        y,
        and-r _ _ (and-r _ _ h),
        rw i (moved-on R g (renested st (st.depth + 1) (max st.high (st.depth + 1))) within_it),
      ))
    where
      position_holds : OpenNodesAgree R symbol q level fs st
      position_holds = g.position.0

      inner : Then
      inner p x y = level_is_entered p and keeps_to_table n symbol (level_left p) x y other_rule then

      deeper_tree : (t : Tree) → Made R t → st.depth < nesting_all t
      deeper_tree t p = goes-deeper R x t (rest st) w (and-r _ _ (and-l _ _ h)) position_holds.machine
          (made-passes R (rest st) t p)
          (next-classes R g).near position_holds.machine.reach

      within_it : PositionHolds R symbol (in_row q Entered (limit_forgotten certainty)) fs (enter st)
      within_it = (
        record {
          children = position_holds.children;
          machine = record {
            reach = position_holds.machine.reach;
            leveled = leveled-enter R (eqb-true _ _ (and-l _ _ (and-r _ _ h)))
                (leb-false st.limit st.depth (sym e)) deeper_tree position_holds.machine.leveled;
            alone = position_holds.machine.alone;
          };
          built = position_holds.built;
        },
        certainty-forgotten R certainty (frame symbol q position_holds.children ∷ fs) st (enter st) refl g.position.1,
      )

      left_it : (q : ℕ) (certainty : Certainty) → PositionHolds R symbol (in_row q Entered certainty) fs later
          → PositionHolds R symbol (in_row q Left (limit_forgotten certainty)) fs (leave later)
      left_it q certainty position_holds = (
        record {
          children = position_holds.0.children;
          machine = record {
            reach = position_holds.0.machine.reach;
            leveled = leveled-leave R position_holds.0.machine.leveled;
            alone = position_holds.0.machine.alone;
          };
          built = position_holds.0.built;
        },
        certainty-forgotten R certainty (frame symbol q position_holds.0.children ∷ fs) later (leave later)
            refl position_holds.1,
      )

      after_it : Continues R symbol fs inner later → RunOutcome R symbol fs then state
      after_it (in_row q Entered certainty, x, y, h, g) = simulated other_rule walk' n symbol fs then (
        in_row q Left (limit_forgotten certainty),
        x,
        y,
        and-r _ _ h,
        moved-on R g (leave-unread j) (rw j (left_it q certainty g.position)),
      )
      after_it (machine_is_stuck, x, y, h, g) = simulated other_rule walk' n symbol fs then (
        machine_is_stuck,
        x,
        y,
        and-r _ _ h,
        moved-on R g (leave-unread j) (unread-stuck R (leave-unread j) g.position),
      )
      after_it (in_row q NotEntered certainty, x, y, h, g) = false-true refl (and-l _ _ h)
      after_it (in_row q Left certainty, x, y, h, g) = false-true refl (and-l _ _ h)

  -- The induction. A report ends the walk: it is right, and stays so. Fuel is spent where the check goes into a child
  -- or a call, so the cases of no fuel can't be.
  pub simulation : {rule : Rule} {st next_state : State} → Runs rule st next_state
      → (n symbol : ℕ) (this_position : Position) (now after : ℕ) (fs : List Frame) (then : Then)
      → Checked n symbol this_position now after rule then
      → StateFits R symbol this_position now after fs st → RunOutcome R symbol fs then next_state
  unfolding Checked keeps_to_table step
  simulation skip n symbol this_position now after fs then h state_fits = inr (this_position, now, after, h, state_fits)
  simulation {st = st} (does {primitive = Bump kind} e) n symbol this_position now after fs then h state_fits =
      rw e (bump-outcome R symbol this_position now after kind fs then st h state_fits)
  simulation {st = st} (does {primitive = Note message} e) n symbol this_position now after fs then h state_fits =
      rw e (inl (note-rightly R message st state_fits.no_report
      (report-right R symbol this_position now after fs st h state_fits)
      (taken-at R symbol this_position fs st state_fits.position)))
  simulation {next_state = u} (seq {rule = rule} {other_rule = other_rule} {after = after} run second_run) n symbol
      this_position now y fs then h state_fits =
      let next_then : Then = λ p' u v. keeps_to_table n symbol p' u v other_rule then in
      then-on symbol fs next_then then after u (run-grows second_run)
      (simulated other_rule (simulation second_run) n symbol fs then)
      (simulated rule (simulation run) n symbol fs next_then (this_position, now, y, h, state_fits))
  simulation {st = st} (yes {test = test} {rule = rule} {other_rule = other_rule} e run) n symbol this_position now
      after fs then h state_fits =
      simulated rule (simulation run) n symbol fs then
      (branch test true symbol fs st (λ p' u v. keeps_to_table n symbol p' u v rule then)
      (λ p' u v. keeps_to_table n symbol p' u v other_rule then) e (this_position, now, after, h, state_fits))
  simulation {st = st} (no {test = test} {rule = rule} {other_rule = other_rule} e run) n symbol this_position now after
      fs then h state_fits =
      simulated other_rule (simulation run) n symbol fs then
      (branch test false symbol fs st (λ p' u v. keeps_to_table n symbol p' u v rule then)
      (λ p' u v. keeps_to_table n symbol p' u v other_rule then) e (this_position, now, after, h, state_fits))
  simulation {st = st} (done {test = test} {rule = rule} e) n symbol this_position now after fs then h state_fits =
      let d = head-at (loop_turn n symbol test rule then) h.0 symbol this_position now after fs st h.1 h.2
      h.3 state_fits in
      inr (branch test false symbol fs st
      (λ q' u' v'. keeps_to_table n symbol q' u' v' rule (turns d.count (loop_turn n symbol test rule then) d.states))
      then e d.goes_on)
  simulation {st = st} {next_state = next_state} (again {test = test} {rule = rule} {after = after} e run second_run) n
      symbol this_position now y fs then h
      state_fits =
      let d = head-at (loop_turn n symbol test rule then) h.0 symbol this_position now y fs st h.1 h.2 h.3 state_fits in
      let next_then : Then = turns d.count (loop_turn n symbol test rule then) d.states in
      then-on symbol fs next_then then after next_state (run-grows second_run)
      (λ o. simulation second_run n symbol o.0 o.1 o.2 fs then (d.count, d.states, o.3, d.met) o.4)
      (simulated rule (simulation run) n symbol fs next_then (branch test true symbol fs st
      (λ q' u' v'. keeps_to_table n symbol q' u' v' rule next_then) then e d.goes_on))
  simulation (child i j run) zero symbol this_position now after fs then h state_fits = false-true refl h
  simulation {st = st} (child {node = this_node} {after = after} {later = later} i j run) (suc n) symbol this_position
      now y fs then h state_fits =
      rw j (child-simulated n symbol this_position now y this_node fs then st after later i (simulation run)
      h state_fits)
  simulation {st = st} {next_state = next_state}
      (deeper {rule = rule} {other_rule = other_rule} {after = after} {later = later}
      {last = last} d i j run second_run) n symbol this_position now y fs then h state_fits =
      level-simulated n symbol this_position now y rule other_rule fs then st after later last next_state d i j
      (simulation run) (simulation second_run)
      (run-grows second_run) h state_fits
  simulation {st = st} (limited d e) n symbol this_position now after fs then h state_fits =
      rw e (inl (limit-rightly R st state_fits.no_report (too-many R symbol this_position now after fs st h state_fits)
      (taken-at R symbol this_position fs st state_fits.position)))
  simulation {st = st} (refused d e) n symbol this_position now after fs then h state_fits =
      rw e (inl (limit-rightly R st state_fits.no_report
      (too-many R symbol (with_limit_known this_position) now after fs st (and-l _ _ h)
      (record {
        no_report = state_fits.no_report;
        seen = state_fits.seen;
        position = limit-known-holds R symbol fs st this_position
            (sym d) state_fits.position;
      })) (taken-at R symbol this_position fs st state_fits.position)))
  simulation (call run) zero symbol this_position now after fs then h state_fits = false-true refl h
  simulation (call {part = part} run) (suc n) symbol this_position now after fs then h state_fits =
      simulation run n symbol this_position now after fs then
      (checked n symbol this_position now after (body part) then h) state_fits
  simulation {st = st} {next_state = next_state} (plain {rule = rule} {after = after} i run e) n symbol this_position
      now y fs then h state_fits =
      plain-type n symbol this_position now y rule fs then st after next_state i (simulation run) e h state_fits
  simulation {st = st} (wrapped {rule = rule} {after = after} {later = later} {last = last} {end_state = end_state} i o
      m j run e (does f)) n symbol
      this_position now y fs then h state_fits =
      rw j (wrapped-type n symbol this_position now y rule fs then st after later last end_state i
      (simulation run) (adds run)
      (m ∙ ap (λ (n : ℕ). wrapped_from n kind.NON_NULL_TYPE later) o)
      (run-grows (does {primitive = Bump kind.BANG} f)) f e h state_fits)
