-- The machine's moves along a rule: where it is stuck, where the limit is reached, and how it takes a token, begins a
-- node and ends one.
--
-- The names are those of `TableCheck`; besides: `R` is the parser's input and `w` its words, `st` the parser's state,
-- `fs` the machine's open nodes above the innermost one and `gs` with it, and `h` the check.
use Rattle.std.proofs.Common.{◌≡◌, ℕ, ◌+◌, ◌≤◌, ◌<◌, Bool, true, false, cond, eqb, not, List, [], ◌∷◌, ◌++◌, length}
use Rattle.std.proofs.Common.{Option, Some, None, refl, sym, ap, ap₂, ◌∙◌, subst, ◌⊎◌, inl, inr, eqb-true, arith}
use Rattle.std.proofs.Common.{leb-true}
use Rattle.lexical_grammar.specs.Answers.{is_end}
use Rattle.document_grammar.proofs.Booleans.{false-true, and-l, and-r, or-c, not-c, implies}
use Rattle.document_grammar.specs.Booleans.{◌and◌, ◌or◌}
use Rattle.document_grammar.specs.Builds.{add_leaf}
use Rattle.document_grammar.specs.Numbers.{number}
use Rattle.document_grammar.specs.Sentence.{leaf_number}
use Rattle.document_grammar.specs.Tree.{Token, Tree, leaf, node, Forest, none, ◌▸◌, ◌+++◌}
use Rattle.document_grammar.specs.declared.kind.SyntaxKind.{SyntaxKind}
use Rattle.grammar_machine.proofs.Checks.{subset}
use Rattle.grammar_machine.proofs.Depth.{count_in, nesting_all, depth, left-depth}
use Rattle.grammar_machine.proofs.FromMachineTree.{shows, show, show-root}
use Rattle.grammar_machine.proofs.MachineTheorems.{Parse, fault, never-stuck, on-the-way, no-leaf as start-no-leaf}
use Rattle.grammar_machine.proofs.MachineTheorems.{fault-left}
use Rattle.grammar_machine.proofs.Makes.{makes-on, makes-depth, makes-stuck}
use Rattle.grammar_machine.proofs.OneTokenLookahead.{Firm, firm-shift, firm-close}
use Rattle.grammar_machine.proofs.Patterns.{label}
use Rattle.grammar_machine.proofs.Run.{next}
use Rattle.grammar_machine.proofs.Sound.{any, second-any, spent, reach-sound, move-ends, move-has, move-fires}
use Rattle.grammar_machine.proofs.Steps.{goes, sticks, goes-move, closes-move, sticks-move, misses-fires, misses}
use Rattle.grammar_machine.proofs.TableLemmas.{holds-subset, holds-disjoint, arcs-at}
use Rattle.grammar_machine.specs.Machine.{holds as within, is_leaf, ends, exit, arcs, target, entries, fires, Move, go}
use Rattle.grammar_machine.specs.Machine.{close, stuck, class, first as first_class, Frame, frame, Reach, shift, open'}
use Rattle.grammar_machine.specs.Machine.{closed as closes_node, has}
use Rattle.grammar_machine.specs.Symbols.{TYPE}
use Rattle.parser_rules.proofs.NodeChecks.{node-passes}
use Rattle.parser_rules.proofs.lookahead.MachineClasses.{Next, sees-next}
use Rattle.parser_rules.proofs.lookahead.Split.{Level, Certainty, Nothing, OpenWhateverFollows, AtLimit, Position}
use Rattle.parser_rules.proofs.lookahead.Split.{in_row, machine_is_stuck, at_start}
use Rattle.parser_rules.proofs.lookahead.TokenSets.{edges, class_of, of-any, over, Seen, seen-any}
use Rattle.parser_rules.proofs.reports.NoReport.{Now, choose, EndsWell, rest, answers_tokens, current_tokens, AtToken}
use Rattle.parser_rules.proofs.reports.NoReport.{end-or-token, given, passed-one, Held, read-on}
use Rattle.parser_rules.proofs.runs.Frame.{Untouched, read-untouched}
use Rattle.parser_rules.proofs.runs.Reading.{second-shown, reading, found}
use Rattle.parser_rules.proofs.soundness.FirstReport.{Stuck, TooMany, no_token}
use Rattle.parser_rules.proofs.soundness.MachineStack.{image, image-some, shows-snoc, put-image, image-node, lay}
use Rattle.parser_rules.proofs.soundness.MachineStack.{lay-put}
use Rattle.parser_rules.proofs.soundness.Positions.{ParserInput, OnlyBuilds, opened-builds, closed-builds, unread-rest}
use Rattle.parser_rules.proofs.soundness.Positions.{unread-grows, top, MachineIsAt, OpenNodesAgree, StuckUnreported}
use Rattle.parser_rules.proofs.soundness.Positions.{CertaintyHolds, PositionHolds, ReportIsRight, NoReportYet}
use Rattle.parser_rules.proofs.soundness.Positions.{RightlyReported, Made, StateFits, Continues, RunOutcome, rightly-on}
use Rattle.parser_rules.proofs.soundness.Positions.{certainly-open, start_begins, shown, spent-before, fitting}
use Rattle.parser_rules.proofs.soundness.Positions.{agree-taken, unread-stuck, leveled-leaf, leveled-begin, leveled-end}
use Rattle.parser_rules.proofs.soundness.Positions.{still-leveled, moved-on}
use Rattle.parser_rules.proofs.soundness.Settled.{Fitting, settled-at}
use Rattle.parser_rules.proofs.soundness.TableCheck.{Then, absent_as_end, level_entered, counts_itself, only_root}
use Rattle.parser_rules.proofs.soundness.TableCheck.{levels_agree, leaf_of, may_be_cut_off, takes_token, ends_at}
use Rattle.parser_rules.proofs.soundness.TableCheck.{after_node, after_inlined, after_stuck_node, all_counted}
use Rattle.parser_rules.proofs.soundness.TableCheck.{may_report_limit, may_report, is_node, node_may_end, follows_table}
use Rattle.parser_rules.proofs.soundness.TableCheck.{no_brace, exit_is_right, goes_deeper}
use Rattle.parser_rules.proofs.soundness.WithoutIgnored.{Stack, stack, put, stack-leaf, stack-finish, stack-flush}
use Rattle.parser_rules.specs.Nodes.{Node, symbol as symbol_of, kind_of}
use Rattle.parser_rules.specs.State.{State, Lexeme, second, flush, opened, closed, moved, bump, is_deep, add_all}
use Rattle.parser_rules.specs.State.{read_on}

module _ (R : ParserInput) where
  open R use {sort, answers, limit as lim, words as w}

  -- ---- where the machine is stuck

  pub next-classes : {symbol now after : ℕ} {position : Position} {fs : List Frame} {st : State}
      → StateFits R symbol position now after fs st
      → Next now after (rest st)
  next-classes {now = now} {after = after} {st = st} state_fits =
      sees-next now after st state_fits.no_report.now state_fits.seen

  pub machine-goes : {symbol state now after : ℕ} {level : Level} {certainty : Certainty} {fs : List Frame}
      {st : State} (j : ℕ)
      → StateFits R symbol (in_row state level certainty) now after fs st
      → goes symbol state now (absent_as_end after) j ≡ true
      → next symbol state (rest st) ≡ go j
  machine-goes {symbol = symbol} {state = state} {now = now} {after = after} j state_fits h =
      let n = next-classes state_fits in
      goes-move symbol state now (absent_as_end after) j _ _ h n.near n.far

  pub stuck-at : {symbol state now after : ℕ} {level : Level} {certainty : Certainty} {fs : List Frame} {st : State}
      → StateFits R symbol (in_row state level certainty) now after fs st
      → sticks symbol state now (absent_as_end after) ≡ true → StuckUnreported R st
  stuck-at {symbol = symbol} {state = state} {now = now} {after = after} {fs = fs} {st = st} state_fits h =
      let open_nodes_agree : OpenNodesAgree R symbol state _ fs st = state_fits.position.0 in
      let n = next-classes state_fits in (
        (
          fault (top R) (start_begins R) w symbol state open_nodes_agree.children fs (rest st)
              open_nodes_agree.machine.reach
              (sticks-move symbol state now (absent_as_end after) _ _ h n.near n.far),
          (frame symbol state open_nodes_agree.children ∷ fs, open_nodes_agree.machine.reach),
        ),
        agree-taken R open_nodes_agree,
      )

  -- the root may end here, and tokens are left
  pub root-stuck : {symbol state : ℕ} {level : Level} {forest : Forest} {fs : List Frame} {st : State}
      → MachineIsAt R symbol state level forest fs st
      → only_root symbol ≡ true → next symbol state (rest st) ≡ close → (first_class (rest st) ≡ 0 → ⊥)
      → Stuck sort answers lim w (rest st)
  root-stuck {symbol = symbol} {state = state} {forest = forest} {fs = fs} {st = st} machine_is_at h m z =
      let alone : Reach (top R) w (frame symbol state forest ∷ []) (rest st) = subst
      (λ (z : List Frame). Reach (top R) w (frame symbol state forest ∷ z) (rest st)) (machine_is_at.alone h)
      machine_is_at.reach in
      let e : symbol ≡ (top R) = (reach-sound (start-no-leaf (top R) (start_begins R)) alone).2 in (
        fault-left (top R) (start_begins R) w state forest (rest st)
            (subst (λ (n : ℕ). Reach (top R) w (frame n state forest ∷ []) (rest st)) e alone)
            (subst (λ (n : ℕ). next n state (rest st) ≡ close) e m) z,
        (frame symbol state forest ∷ fs, machine_is_at.reach),
      )

  pub report-right : (symbol : ℕ) (position : Position) (now after : ℕ) (fs : List Frame) (st : State)
      → may_report symbol position now after ≡ true
      → StateFits R symbol position now after fs st → Stuck sort answers lim w (rest st)
  unfolding may_report has fires
  report-right symbol machine_is_stuck now after fs st h state_fits = state_fits.position.0
  report-right symbol (in_row state level certainty) now after fs st h state_fits =
      on (next symbol state (rest st)) refl
    where
      c : OpenNodesAgree R symbol state level fs st
      c = state_fits.position.0

      on : (m : Move) → next symbol state (rest st) ≡ m → Stuck sort answers lim w (rest st)
      on (go k) m = false-true (misses-fires (entries k) now (absent_as_end after) _ _
          (arcs-at (arcs symbol state) (λ k q'. misses k now (absent_as_end after)) k (and-l _ _ h)
          (move-has symbol state _ _ k m))
          (next-classes state_fits).near (next-classes state_fits).far) (move-fires symbol state _ _ k m)
      on stuck m = (
        fault (top R) (start_begins R) w symbol state c.children fs (rest st) c.machine.reach m,
        (frame symbol state c.children ∷ fs, c.machine.reach),
      )
      on close m = elim (or-c _ _ (and-r _ _ h)) [
        | inl e ↦ false-true (not-c _ e) (move-ends symbol state _ _ m)
        | inr e ↦ root-stuck c.machine (and-l _ _ e) m (λ z. false-true (holds-disjoint 0 now 1 (and-r _ _ e)
            (subst (λ (a : ℕ). within a now ≡ true) z (next-classes state_fits).near)) edges.end_one)
      ]

  -- ---- the limit

  -- where the machine comes before the tokens `these_tokens` of `tokens`, the tree nests as deep as the open nodes, and
  -- the machine is not stuck
  pub record Passes (tokens these_tokens : List Token) (tree : Tree) : Type 0 where
    pub deep : (gs : List Frame) → Reach (top R) tokens gs these_tokens → depth gs ≤ nesting_all tree
    pub goes : (symbol state : ℕ) (forest : Forest) (fs : List Frame)
        → Reach (top R) tokens (frame symbol state forest ∷ fs) these_tokens
        → next symbol state these_tokens ≡ stuck → ⊥

  -- so it is for a tree of the tokens, and for the tree that the machine makes
  pub parse-passes : (tokens more : List Token) (tree : Tree) → Parse (top R) tree tokens → Passes tokens more tree
  parse-passes tokens more tree parse = record {
    deep = λ gs r. left-depth gs more tree (on-the-way (top R) (start_begins R) tree tokens gs more parse r);
    goes = λ s q f fs r m. never-stuck (top R) (start_begins R) tree tokens s q f fs more parse r m;
  }

  pub made-passes : (tokens : List Token) (tree : Tree) → Made R tree → Passes w tokens tree
  made-passes tokens tree p =
      record { deep = λ gs r. makes-depth (makes-on r p); goes = λ s q f fs r m. makes-stuck (makes-on r p) m }

  -- where the check lets a level be entered, each tree that goes on nests deeper
  pub goes-deeper : {symbol state : ℕ} {level : Level} {forest : Forest} {fs : List Frame} {st : State} (now : ℕ)
      (tree : Tree) (tokens more : List Token)
      → goes_deeper symbol state level now ≡ true → MachineIsAt R symbol state level forest fs st
      → Passes more tokens tree
      → within (first_class tokens) now ≡ true → Reach (top R) more (frame symbol state forest ∷ fs) tokens
      → st.depth < nesting_all tree
  unfolding has fires
  goes-deeper {symbol = symbol} {state = state} {level = level} {forest = forest} {fs = fs} {st = st} now tree tokens
      more h machine_is_at passes hx reach =
      elim (or-c _ _ (and-r _ _ h)) [
        | inl i ↦ (
            let a = passes.deep gs reach in
            let o = eqb-true _ _ i in
            omega (arith, a, o, low_level, machine_is_at.leveled.level))
        | inr i ↦ on (next symbol state tokens) refl (eqb-true _ _ (and-l _ _ i)) (and-r _ _ i)
      ]
    where
      gs : List Frame
      gs = frame symbol state forest ∷ fs

      low_level : level_entered level ≡ 0
      low_level = eqb-true _ _ (and-l _ _ h)

      on : (m : Move) → next symbol state tokens ≡ m → counts_itself symbol ≡ 0
          → all_counted symbol (arcs symbol state) now any and not (ends symbol state) ≡ true
          → st.depth < nesting_all tree
      on close m o i = false-true (not-c _ (and-r _ _ i)) (move-ends symbol state _ _ m)
      on stuck m o i = absurd (passes.goes symbol state forest fs reach m)
      on (go k) m o i = elim (or-c _ _
          (arcs-at (arcs symbol state) (λ k q'. misses k now any or (eqb (count_in symbol k) 1 and not (is_leaf k))) k
          (and-l _ _ i) (move-has symbol state _ _ k m))) [
            | inl z ↦ false-true (misses-fires (entries k) now any _ _ z hx (second-any tokens))
                (move-fires symbol state _ _ k m)
            | inr z ↦ (
                let a = passes.deep (frame k 0 none ∷ gs) (open' reach m (not-c _ (and-r _ _ z))) in
                let b = eqb-true _ _ (and-l _ _ z) in
                omega (arith, a, b, o, low_level, machine_is_at.leveled.level))
          ]

  pub too-many : (symbol : ℕ) (position : Position) (now after : ℕ) (fs : List Frame) (st : State)
      → may_report_limit symbol position now ≡ true
      → StateFits R symbol position now after fs st → TooMany sort answers lim w (rest st)
  unfolding may_report_limit is_deep
  too-many symbol machine_is_stuck now after fs st h state_fits = false-true refl h
  too-many symbol (in_row state level Nothing) now after fs st h state_fits = false-true refl (and-l _ _ h)
  too-many symbol (in_row state level OpenWhateverFollows) now after fs st h state_fits = false-true refl (and-l _ _ h)
  too-many symbol (in_row state level AtLimit) now after fs st h state_fits =
      let k = state_fits.position.1.0 in
      let machine_is_at : MachineIsAt R symbol state level state_fits.position.0.children fs st =
      state_fits.position.0.machine in
      record {
        before = k.before;
        split = k.split;
        comes = (frame symbol state state_fits.position.0.children ∷ fs, machine_is_at.reach);
        deeper = λ t v p e.
            let a = leb-true st.limit st.depth state_fits.position.1.1 in
            let b = goes-deeper now t v (k.before ++ v) (and-r _ _ h) machine_is_at (parse-passes (k.before ++ v) v t p)
            (subst (λ (n : ℕ). within n now ≡ true) e (next-classes state_fits).near) (k.firm v e) in
            omega (arith, a, b, machine_is_at.leveled.bounds.limit);
      }

  -- ---- a token is taken

  pub flushed : (st : State) → NoReportYet R st → stack (add_all st.pending st.tree) ≡ stack st.tree
  flushed st no_report_yet = stack-flush st.pending st.tree no_report_yet.quiet.waits

  -- What holds after a token has become a leaf of the open node; `shape` gives the builder's open nodes from the node's
  -- children.
  pub record LeafTaken (symbol state child after : ℕ) (level : Level) (forest : Forest) (fs : List Frame)
      (shape : Forest → Stack) (last : State) : Type 0 where
    pub first : Token
    pub machine : MachineIsAt R symbol (target symbol state child) level (forest +++ (leaf child first.1 ▸ none))
        fs last
    pub certain : Firm (top R) w
        (frame symbol (target symbol state child) (forest +++ (leaf child first.1 ▸ none)) ∷ fs) (rest last)
    pub no_report : NoReportYet R last
    pub seen : Seen after any last
    pub built : stack last.tree ≡ shape (shows (forest +++ (leaf child first.1 ▸ none)))

  -- What is built as `shape` says takes more trees in its innermost open node; where the machine reaches that, all
  -- trees of it fit.
  pub record Shaped (symbol : ℕ) (fs : List Frame) (shape : Forest → Stack) : Type 0 where
    pub joins : (forest more_trees : Forest) → put more_trees (shape forest) ≡ shape (forest +++ more_trees)
    pub fits : (state : ℕ) (forest : Forest) (remaining : List Token)
        → Reach (top R) w (frame symbol state forest ∷ fs) remaining
        → Fitting (length (spent (frame symbol state forest ∷ fs))) (shape (shows forest))

  pub token-taken : (kind : SyntaxKind) (symbol state child now after : ℕ) (level : Level) (certainty : Certainty)
      (forest : Forest) (fs : List Frame)
      (st : State) (shape : Forest → Stack) (then_at : Position → Bool)
      → takes_token symbol (in_row state level certainty) now after (number kind) child then_at ≡ true
      → Shaped symbol fs shape
      → MachineIsAt R symbol state level forest fs st → (stack st.tree ≡ shape (shows forest))
      → NoReportYet R st → Seen now after st
      → RightlyReported R (bump kind st) ⊎ LeafTaken symbol state child after level forest fs shape (bump kind st)
  unfolding bump takes_token flush
  token-taken kind symbol state k x after level certainty forest fs st shape then_at h sh machine_is_at built no_report
      seen = at st.current refl no_report.now
    where
      u : Lexeme → State
      u t = record (flush st) { tree = add_leaf kind t.text (flush st).tree }

      took : (t : Lexeme) → st.current ≡ Some t → AtToken t st.items → EndsWell st.items
          → RightlyReported R (moved kind st (Some t))
          ⊎ LeafTaken symbol state k after level forest fs shape (moved kind st (Some t))
      took t e a en =
          let b : Token = (leaf_number t.kind, t.text) in
          let gs : List Frame = frame symbol (target symbol state k) (forest +++ (leaf k t.text ▸ none)) ∷ fs in
          let split : rest st ≡ b ∷ answers_tokens st.items =
          ap (λ (o : Option Lexeme). current_tokens o ++ answers_tokens st.items) e ∙ a.first in
          let leaf_next : is_leaf k ≡ true = and-r _ _ (and-l _ _ (and-l _ _ h)) in
          let kinds = and-r _ _ (and-l _ _ h) in
          let n = sees-next x after st no_report.now seen in
          let m : next symbol state (b ∷ answers_tokens st.items) ≡ go k =
          subst (λ (v : List Token). next symbol state v ≡ go k) split
          (goes-move symbol state x (absent_as_end after) k _ _ (and-l _ _ (and-r _ _ h)) n.near n.far) in
          let here : Reach (top R) w (frame symbol state forest ∷ fs) (b ∷ answers_tokens st.items) = subst
          (λ (v : List Token). Reach (top R) w (frame symbol state forest ∷ fs) v) split machine_is_at.reach in
          let there : Reach (top R) w gs (answers_tokens st.items) = shift here m leaf_next in
          let still : Untouched (u t) (read_on st.items (u t)) = read-untouched st.items (u t) in
          let leafed : stack (u t).tree ≡ shape (shows (forest +++ (leaf k t.text ▸ none))) =
          stack-leaf kind t.text (add_all st.pending st.tree)
          (not-c _ (and-r _ _ kinds))
          ∙ (ap₂ (λ (j : ℕ) (v : Stack). put (leaf j t.text ▸ none) v) (sym (eqb-true _ _ (and-l _ _ kinds)))
          (flushed st no_report ∙ built)
          ∙ (sh.joins (shows forest) (leaf (label k) t.text ▸ none)
          ∙ ap shape (sym (shows-snoc forest (leaf k t.text))))) in
          elim (read-on answers (ReportIsRight R) (reading st.items (u t)) (length (spent gs))
          (record { clean = no_report.quiet.clean; accepts = no_report.quiet.accepts; waits = refl }) en
          (passed-one answers (given t) st.items refl
          (subst (λ (o : Option Lexeme). Held answers o st.items) e no_report.held))
          (λ x ys p i z. let before : Reach (top R) w gs (answers_tokens ys) =
          subst (λ (v : List Token). Reach (top R) w gs v) (sym z) there in
          no_token p i (gs, before)
          (spent-before R gs (answers_tokens ys) before)) (settled-at _ (u t).tree _ leafed (sh.fits _ _ _ there))) [
            | inl o ↦ inl o
            | inr o ↦ inr (record {
              first = b;
              machine = record {
                reach = rw o.1 there;
                leveled = rw (still.depth, still.high, still.limit)
                    (leveled-leaf R k (target symbol state k) t.text leaf_next machine_is_at.leveled);
                alone = machine_is_at.alone;
              };
              certain = rw o.1 (firm-shift here m leaf_next);
              no_report = o.0;
              seen = record {
                near = rw (found (reading st.items (u t))).next seen.far;
                far = of-any _ (second-shown (read_on st.items (u t)).items);
              };
              built = ap stack still.tree ∙ leafed;
            })
          ]

      at : (o : Option Lexeme) → st.current ≡ o → Now o st.items → RightlyReported R (moved kind st o)
          ⊎ LeafTaken symbol state k after level forest fs shape (moved kind st o)
      at None e n = absurd n
      at (Some t) e n = elim (end-or-token t st.items n) [
        | inl z ↦ (
            let i : within (class_of (Some t)) x ≡ true = subst (λ o. within (class_of o) x ≡ true) e seen.near in
            let g : within 0 x ≡ true =
            subst (λ k. within (cond (is_end k) 0 (class (leaf_number k, t.text))) x ≡ true) z.kind i in
            false-true (holds-disjoint 0 x 1 (and-l _ _ (and-l _ _ (and-l _ _ h))) g) edges.end_one)
        | inr a ↦ took t e a (subst (λ (b : Bool). choose b (st.items ≡ []) (EndsWell st.items)) a.is_end n.1)
      ]

  pub bump-outcome : (symbol : ℕ) (this_position : Position) (now after : ℕ) (kind : SyntaxKind) (fs : List Frame)
      (then : Then) (st : State)
      → takes_token symbol this_position now after (number kind) (leaf_of symbol (number kind))
      (λ p'. then p' after any) ≡ true
      → StateFits R symbol this_position now after fs st → RunOutcome R symbol fs then (bump kind st)
  unfolding takes_token
  bump-outcome symbol machine_is_stuck now after kind fs then st h state_fits = false-true refl h
  bump-outcome symbol (in_row q level certainty) now after kind fs then st h g =
      let j : ℕ = leaf_of symbol (number kind) in
      let open_nodes_agree : OpenNodesAgree R symbol q level fs st = g.position.0 in
      elim (token-taken kind symbol q j now after level certainty open_nodes_agree.children fs st
      (λ f. lay symbol f (image fs)) (λ p'. then p' after any) h
      (record {
        joins = λ f g. sym (lay-put symbol f g (image fs));
        fits = λ q f r o. fitting R (frame symbol q f ∷ fs) r o;
      }) open_nodes_agree.machine
      open_nodes_agree.built g.no_report g.seen) [
        | inl o ↦ inl o
        | inr o ↦ inr (
          in_row (target symbol q j) level OpenWhateverFollows,
          after,
          any,
          and-r _ _ (and-r _ _ h),
          record {
            no_report = o.no_report;
            seen = o.seen;
            position = (
              record {
                children = open_nodes_agree.children +++ (leaf j o.first.1 ▸ none);
                machine = o.machine;
                built = o.built;
              },
              o.certain,
            );
          },
        )
      ]

  -- ---- a node begins and ends

  -- a node of the symbol `j` begins
  pub begun : {symbol state now after : ℕ} {level : Level} {certainty : Certainty} {fs : List Frame}
      {st last : State} (j : ℕ)
      (state_fits : StateFits R symbol (in_row state level certainty) now after fs st)
      → is_leaf j ≡ false → only_root j ≡ false
      → goes symbol state now (absent_as_end after) j ≡ true → levels_agree symbol level j ≡ true → OnlyBuilds st last
      → (stack st.tree ≡ image (frame symbol state state_fits.position.0.children ∷ fs)
      → stack last.tree ≡ image (frame j 0 none ∷ frame symbol state state_fits.position.0.children ∷ fs))
      → StateFits R j at_start now after (frame symbol state state_fits.position.0.children ∷ fs) last
  begun j state_fits i ro m h only_builds b =
      let c = state_fits.position.0 in
      moved-on R state_fits only_builds.reads_nothing (
        record {
          children = none;
          machine = record {
            reach = rw (unread-rest only_builds.reads_nothing) (open' c.machine.reach (machine-goes j state_fits m) i);
            leveled = still-leveled R only_builds (leveled-begin R j h c.machine.leveled);
            alone = λ z. false-true ro z;
          };
          built = b c.built;
        },
        tt,
      )

  -- a node is not a leaf, a type or a kind of roots alone, and its symbol's kind is its own
  pub node-is : (this_node : Node) → (is_leaf (symbol_of this_node) ≡ false) × (eqb (symbol_of this_node) TYPE ≡ false)
      × (only_root (symbol_of this_node) ≡ false) × (label (symbol_of this_node) ≡ number (kind_of this_node))
  unfolding follows_table is_node
  node-is this_node = let h = and-l _ _ (node-passes this_node).table in let r = and-r _ _ h in (
    not-c _ (and-l _ _ h),
    not-c _ (and-l _ _ r),
    not-c _ (and-l _ _ (and-r _ _ r)),
    eqb-true _ _ (and-r _ _ (and-r _ _ r)),
  )

  pub node-begun : {symbol state now after : ℕ} {level : Level} {certainty : Certainty} {fs : List Frame}
      {st : State} (this_node : Node)
      (state_fits : StateFits R symbol (in_row state level certainty) now after fs st)
      → goes symbol state now (absent_as_end after) (symbol_of this_node) ≡ true
      → levels_agree symbol level (symbol_of this_node) ≡ true → StateFits R (symbol_of this_node) at_start now after
      (frame symbol state state_fits.position.0.children ∷ fs) (opened (kind_of this_node) st)
  unfolding opened flush
  node-begun {symbol = symbol} {state = state} {fs = fs} {st = st} this_node state_fits m h =
      begun (symbol_of this_node) state_fits (node-is this_node).0 (node-is this_node).2 m h
      (opened-builds (kind_of this_node) st)
      (λ e. ap₂ (λ (k : ℕ) (this_stack : Stack). (k, none) ∷ this_stack) (sym (node-is this_node).3)
      (flushed st state_fits.no_report ∙ e)
      ∙ sym (image-node (symbol_of this_node) 0 none (frame symbol state state_fits.position.0.children ∷ fs)
      (node-is this_node).1))

  -- the machine ends a node
  pub ended : {symbol state j p : ℕ} {level other_level : Level} {forest : Forest} {fs : List Frame}
      {st later last : State}
      (open_nodes_agree : OpenNodesAgree R symbol state level fs st) (certainty : Certainty) (now : ℕ)
      → levels_agree symbol level j ≡ true
      → ends_at j p other_level certainty now ≡ true → within (first_class (rest later)) now ≡ true
      → CertaintyHolds R certainty (frame j p forest ∷ frame symbol state open_nodes_agree.children ∷ fs) later
      → MachineIsAt R j p other_level forest (frame symbol state open_nodes_agree.children ∷ fs) later
      → OnlyBuilds later last
      → (stack last.tree ≡ put (show (node j forest) ▸ none)
      (image (frame symbol state open_nodes_agree.children ∷ fs)))
      → PositionHolds R symbol (in_row (target symbol state j + exit j p) level OpenWhateverFollows) fs last
  unfolding ends_at
  ended {symbol = symbol} {state = state} {j = j} {p = p} {forest = forest} {fs = fs}
      {later = later} open_nodes_agree certainty now h e n certainty_holds machine_is_at only_builds b =
      let r = and-l _ _ e in
      let m : next j p (rest later) ≡ close = closes-move j p now any _ _ (and-r _ _ e) n (second-any (rest later)) in (
        record {
          children = open_nodes_agree.children +++ (node j forest ▸ none);
          machine = record {
            reach = rw (unread-rest only_builds.reads_nothing) (closes_node machine_is_at.reach m);
            leveled = still-leveled R only_builds
                (leveled-end R (target symbol state j + exit j p) h (eqb-true _ _ (and-l _ _ (and-l _ _ r)))
                (eqb-true _ _ (and-r _ _ (and-l _ _ r))) open_nodes_agree.machine.leveled machine_is_at.leveled);
            alone = open_nodes_agree.machine.alone;
          };
          built = b ∙ put-image symbol state (target symbol state j + exit j p)
              open_nodes_agree.children (node j forest) fs;
        },
        rw (unread-rest only_builds.reads_nothing) (firm-close now (certainly-open R certainty
            (frame j p forest ∷ frame symbol state open_nodes_agree.children ∷ fs) later (and-r _ _ r) certainty_holds)
            (and-r _ _ e) n),
      )

  -- an inlined node ends
  pub inlined-ended : {symbol state j p now after : ℕ} {level other_level : Level} {certainty : Certainty}
      {fs : List Frame} {st later last : State}
      (open_nodes_agree : OpenNodesAgree R symbol state level fs st) (then : Then) → levels_agree symbol level j ≡ true
      → after_inlined j (in_row (target symbol state j) level OpenWhateverFollows) then
      (in_row p other_level certainty) now after ≡ true
      → (state_fits : StateFits R j (in_row p other_level certainty) now after
      (frame symbol state open_nodes_agree.children ∷ fs) later)
      → OnlyBuilds later last → (stack last.tree ≡ put (show (node j state_fits.position.0.children) ▸ none)
      (image (frame symbol state open_nodes_agree.children ∷ fs))) → Continues R symbol fs then last
  unfolding after_inlined
  inlined-ended {symbol = symbol} {state = state} {j = j} {p = p} {now = now} {after = after} {level = level}
      {certainty = certainty} open_nodes_agree then h e state_fits only_builds b = (
        in_row (target symbol state j + exit j p) level OpenWhateverFollows,
        now,
        after,
        and-r _ _ e,
        moved-on R state_fits only_builds.reads_nothing (ended open_nodes_agree certainty now h (and-l _ _ e)
            (next-classes state_fits).near state_fits.position.1 state_fits.position.0.machine only_builds b),
      )

  pub closed-built : {symbol state p : ℕ} {level : Level} {forest : Forest} {fs : List Frame}
      {last : State} (this_node : Node)
      (open_nodes_agree : OpenNodesAgree R (symbol_of this_node) p level (frame symbol state forest ∷ fs) last)
      → stack (closed last).tree
      ≡ put (show (node (symbol_of this_node) open_nodes_agree.children) ▸ none)
      (image (frame symbol state forest ∷ fs))
  unfolding closed
  closed-built {symbol = symbol} {state = state} {p = p} {forest = forest} {fs = fs} {last = last}
      this_node open_nodes_agree =
      let gs : List Frame = frame symbol state forest ∷ fs in
      stack-finish last.tree (label (symbol_of this_node), shows open_nodes_agree.children) (image gs) (image-some gs)
      (open_nodes_agree.built ∙ image-node (symbol_of this_node) p open_nodes_agree.children gs (node-is this_node).1)
      ∙ ap (λ (t : Tree). put (t ▸ none) (image gs))
      (sym (show-root (symbol_of this_node) open_nodes_agree.children (node-is this_node).1))

  pub rightly-closed : (later : State) → RightlyReported R later → RightlyReported R (closed later)
  rightly-closed later rightly_reported =
      rightly-on R later (closed later) (unread-grows (closed-builds later).reads_nothing) rightly_reported

  pub stuck-closed : {symbol s' now after : ℕ} {fs fs' : List Frame} {later : State}
      → StateFits R symbol machine_is_stuck now after fs later
      → StateFits R s' machine_is_stuck now after fs' (closed later)
  stuck-closed {later = later} state_fits = moved-on R state_fits (closed-builds later).reads_nothing
      (unread-stuck R (closed-builds later).reads_nothing state_fits.position)

  pub with-sets : {symbol now after u v : ℕ} {this_position : Position} {fs : List Frame} {st : State}
      → StateFits R symbol this_position now after fs st
      → Seen u v st → StateFits R symbol this_position u v fs st
  with-sets state_fits i = record { no_report = state_fits.no_report; seen = i; position = state_fits.position }

  -- whatever follows the next token
  pub far-any : (now after u : ℕ) (st : State) → subset now u ≡ true → Seen now after st → Seen u any st
  far-any now after u st h seen =
      record { near = holds-subset _ now u h seen.near; far = of-any (second st.items) (second-shown st.items) }

  -- the end of the text cuts a node off
  pub cut-off-outcome : {symbol s' now after : ℕ} {fs fs' : List Frame} {last : State} (this_node : Node) (then : Then)
      → may_be_cut_off this_node ≡ true
      → subset now over ≡ true
      → not (may_be_cut_off this_node) or then machine_is_stuck over any ≡ true
      → StateFits R s' machine_is_stuck now after fs' last
      → RunOutcome R symbol fs then (closed last)
  cut-off-outcome {now = now} {after = after} {last = last} this_node then a a' b state_fits =
      inr (
        machine_is_stuck,
        over,
        any,
        implies _ _ b a,
        stuck-closed (with-sets state_fits (far-any now after over last a' state_fits.seen)),
      )

  pub node-outcome : {symbol state : ℕ} {level : Level} {fs : List Frame} {st : State} (this_node : Node)
      (then : Then) (later : State)
      (open_nodes_agree : OpenNodesAgree R symbol state level fs st)
      → levels_agree symbol level (symbol_of this_node) ≡ true
      → after_node (in_row (target symbol state (symbol_of this_node)) level OpenWhateverFollows) this_node then ≡ true
      → RunOutcome R (symbol_of this_node) (frame symbol state open_nodes_agree.children ∷ fs)
      (node_may_end this_node) later
      → RunOutcome R symbol fs then (closed later)
  unfolding node_may_end exit_is_right
  node-outcome this_node then later open_nodes_agree h a (inl o) = inl (rightly-closed later o)
  node-outcome this_node then later open_nodes_agree h a (inr (machine_is_stuck, x, y, e, g)) =
      cut-off-outcome this_node then (and-l _ _ e) (and-r _ _ e) (and-r _ _ a) g
  node-outcome {symbol = symbol} {state = state} {level = level} {fs = fs} this_node then later open_nodes_agree h a
      (inr (in_row p other_level certainty, x, y, e, g)) = elim (or-c _ _ e) [
        | inl z ↦ elim (or-c _ _ (and-r _ _ z)) [
          | inl i ↦ inr (
            in_row (target symbol state (symbol_of this_node) + 0) level OpenWhateverFollows,
            any,
            any,
            and-l _ _ (and-l _ _ a),
            leaves (and-l _ _ z) 0 (eqb-true _ _ i) any (seen-any later (shown R later g.no_report)),
          )
          | inr i ↦ inr (
            in_row (target symbol state (symbol_of this_node) + 1) level OpenWhateverFollows,
            no_brace,
            any,
            implies _ _ (and-r _ _ (and-l _ _ a)) (and-l _ _ i),
            leaves (and-l _ _ z) 1 (eqb-true _ _ (and-l _ _ (and-r _ _ i))) no_brace
                (far-any x y no_brace later (and-r _ _ (and-r _ _ i)) g.seen),
          )
        ]
        | inr z ↦ cut-off-outcome {s' = symbol_of this_node} {fs' = frame symbol state open_nodes_agree.children ∷ fs}
            this_node then (and-l _ _ z)
            (and-l _ _ (and-r _ _ z)) (and-r _ _ a)
            (record { no_report = g.no_report; seen = g.seen; position = stuck-at g (and-r _ _ (and-r _ _ z)) })
      ]
    where
      -- the parent's state is moved on by the node's exit
      leaves : ends_at (symbol_of this_node) p other_level certainty x ≡ true → (n : ℕ)
          → exit (symbol_of this_node) p ≡ n → (v : ℕ) → Seen v any later
          → StateFits R symbol (in_row (target symbol state (symbol_of this_node) + n) level OpenWhateverFollows) v
          any fs (closed later)
      leaves z n e v i = subst
          (λ (n : ℕ). StateFits R symbol
          (in_row (target symbol state (symbol_of this_node) + n) level OpenWhateverFollows) v any fs
          (closed later)) e
          (moved-on R (with-sets g i) (closed-builds later).reads_nothing (ended open_nodes_agree certainty x h z
          (next-classes g).near g.position.1 g.position.0.machine (closed-builds later)
          (closed-built this_node g.position.0)))

  pub inlined-outcome : {symbol state : ℕ} {level : Level} {fs : List Frame} {st : State} (this_node : Node)
      (then : Then) (later : State)
      (open_nodes_agree : OpenNodesAgree R symbol state level fs st)
      → levels_agree symbol level (symbol_of this_node) ≡ true
      → RunOutcome R (symbol_of this_node) (frame symbol state open_nodes_agree.children ∷ fs)
      (after_inlined (symbol_of this_node)
      (in_row (target symbol state (symbol_of this_node)) level OpenWhateverFollows) then) later
      → RunOutcome R symbol fs then (closed later)
  unfolding after_inlined
  inlined-outcome this_node then later open_nodes_agree h (inl o) = inl (rightly-closed later o)
  inlined-outcome this_node then later open_nodes_agree h (inr (machine_is_stuck, x, y, e, g)) = false-true refl e
  inlined-outcome this_node then later open_nodes_agree h (inr (in_row p level certainty, x, y, e, g)) =
      inr (inlined-ended open_nodes_agree then h e g (closed-builds later) (closed-built this_node g.position.0))

  -- a node that begins where the machine is stuck
  pub stuck-outcome : {symbol : ℕ} {fs : List Frame} (then : Then) (later : State)
      → RunOutcome R symbol fs (after_stuck_node then) later
      → RunOutcome R symbol fs then (closed later)
  stuck-outcome then later (inl o) = inl (rightly-closed later o)
  stuck-outcome then later (inr (in_row state level certainty, x, y, e, g)) = false-true refl (and-l _ _ e)
  stuck-outcome then later (inr (machine_is_stuck, x, y, e, g)) =
      inr (machine_is_stuck, x, y, and-r _ _ e, stuck-closed g)
