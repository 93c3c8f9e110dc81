-- What a position of the check says of the parser's state: the open nodes of the machine and of the builder, the
-- levels, and what is known of them; and which reports are right there.
use Rattle.std.proofs.Common.{◌≡◌, ℕ, suc, ◌+◌, ◌-◌, ◌≤◌, ◌<◌, max, true, false, cond, eqb, List, [], ◌∷◌, ◌++◌, length}
use Rattle.std.proofs.Common.{Option, Some, None, refl, sym, ap, ap₂, ◌∙◌, subst, ◌⊎◌, eqb-true, arith}
use Rattle.std.proofs.lemmas.List.{length-append}
use Rattle.std.specs.Prelude.{⊤}
use Rattle.lexical_grammar.specs.Answers.{Answer}
use Rattle.document_grammar.proofs.Booleans.{false-true, and-l, and-r}
use Rattle.document_grammar.specs.Booleans.{◌or◌}
use Rattle.document_grammar.specs.Builds.{Building}
use Rattle.document_grammar.specs.Derivation.{Sort}
use Rattle.document_grammar.specs.Kinds.{SELECTION_SET, LIST_TYPE}
use Rattle.document_grammar.specs.Tree.{Text, Token, Tree, leaf, node, Forest, none, ◌▸◌, ◌+++◌}
use Rattle.document_grammar.specs.declared.kind.SyntaxKind.{SyntaxKind}
use Rattle.grammar_machine.proofs.Depth.{depth_above, nesting_all, peak, peak-open, peak-close, peak-shift}
use Rattle.grammar_machine.proofs.MachineTheorems.{begins_parse, no-leaf as start-no-leaf}
use Rattle.grammar_machine.proofs.Makes.{Makes}
use Rattle.grammar_machine.proofs.OneTokenLookahead.{Firm}
use Rattle.grammar_machine.proofs.SentenceTheorems.{start_symbol}
use Rattle.grammar_machine.proofs.Sound.{spent, reach-sound, reach-spent}
use Rattle.grammar_machine.proofs.Starts.{opens}
use Rattle.grammar_machine.specs.Machine.{is_leaf, first as first_class, Frame, frame, Reach}
use Rattle.grammar_machine.specs.Symbols.{BARE_SELECTIONS}
use Rattle.parser_rules.proofs.lookahead.Split.{Level, NotEntered, Entered, Left, Certainty, Nothing}
use Rattle.parser_rules.proofs.lookahead.Split.{OpenWhateverFollows, AtLimit, Position, in_row, machine_is_stuck}
use Rattle.parser_rules.proofs.lookahead.Split.{with_limit_known}
use Rattle.parser_rules.proofs.lookahead.TokenSets.{Seen, seen-same}
use Rattle.parser_rules.proofs.reports.NoReport.{Now, rest, answers_tokens, current_tokens, Grows, Stays, Held}
use Rattle.parser_rules.proofs.reports.NoReport.{FirstReportIsRight, first-right-on, first-right, NothingReported}
use Rattle.parser_rules.proofs.runs.Frame.{adds, added-all}
use Rattle.parser_rules.proofs.runs.Reading.{Shown}
use Rattle.parser_rules.proofs.runs.Reporting.{note-is, too_deep-is}
use Rattle.parser_rules.proofs.runs.Steps.{along}
use Rattle.parser_rules.proofs.runs.TreesWithSources.{reports-along, reports-same}
use Rattle.parser_rules.proofs.soundness.FirstReport.{Stuck, TooMany, TokensBefore, RightReport, stuck_here, deep_here}
use Rattle.parser_rules.proofs.soundness.MachineStack.{image}
use Rattle.parser_rules.proofs.soundness.Settled.{Settled, Fitting, fitting-image, settled-at, settled-added}
use Rattle.parser_rules.proofs.soundness.Settled.{settled-start, settled-finish, settled-wrap}
use Rattle.parser_rules.proofs.soundness.TableCheck.{Then, level_entered, counts_itself, only_root, level_due}
use Rattle.parser_rules.proofs.soundness.TableCheck.{open_whatever_follows, limit_forgotten, levels_agree}
use Rattle.parser_rules.proofs.soundness.WithoutIgnored.{all_ignored, stack}
use Rattle.parser_rules.specs.RuleLanguage.{Prim, Rule}
use Rattle.parser_rules.specs.Runs.{Runs}
use Rattle.parser_rules.specs.State.{State, PendingToken, Lexeme, Report, fault_report, recursion_limit_report, note}
use Rattle.parser_rules.specs.State.{flush, opened, closed, wrapped_from, is_deep, leave, too_deep}
use Rattle.parser_rules.specs.declared.message.Message.{Message}

-- ---- levels, on plain numbers

due-le : (symbol : ℕ) (level : Level) → level_due symbol level ≤ 1
unfolding counts_itself
due-le symbol NotEntered = elim (eqb symbol SELECTION_SET or (eqb symbol LIST_TYPE or eqb symbol BARE_SELECTIONS)) as
    (λ b. cond b 1 0 ≤ 1) [ true ↦ omega arith | false ↦ omega arith ]
due-le symbol Entered = omega arith
due-le symbol Left = omega arith

-- ---- steps that read nothing

-- The same tokens are left, the reports are the same, what waits is still ignored, and what was settled of the tree
-- still is.
pub record ReadsNothing (st last : State) : Type 0 where
  pub current : last.current ≡ st.current
  pub items : last.items ≡ st.items
  pub errors : last.errors ≡ st.errors
  pub accepts : last.accepts ≡ st.accepts
  pub waits : all_ignored st.pending ≡ true → all_ignored last.pending ≡ true
  pub stays : Stays st last

-- and nothing of the nesting is touched
pub record OnlyBuilds (st last : State) : Type 0 where
  pub reads_nothing : ReadsNothing st last
  pub depth : last.depth ≡ st.depth
  pub high : last.high ≡ st.high
  pub limit : last.limit ≡ st.limit

-- what waits and the tree are all that changes
pub rebuilt : (st : State) (parts : List PendingToken) (building : Building)
    → (all_ignored st.pending ≡ true → all_ignored parts ≡ true)
    → ((m : ℕ) → Settled m st.tree → Settled m building)
    → OnlyBuilds st (record st { pending = parts; tree = building })
rebuilt st parts building w f = record {
  reads_nothing = record { current = refl; items = refl; errors = refl; accepts = refl; waits = w; stays = f };
  depth = refl;
  high = refl;
  limit = refl;
}

pub same-builds : (st : State) → OnlyBuilds st st
same-builds st = rebuilt st st.pending st.tree (λ z. z) (λ m z. z)

pub flush-builds : (st : State) → OnlyBuilds st (flush st)
unfolding flush
flush-builds st = rebuilt st [] _ (λ z. refl) (λ m z. settled-added m (added-all st.pending st.tree) z)

pub opened-builds : (kind : SyntaxKind) (st : State) → OnlyBuilds st (opened kind st)
unfolding opened flush
opened-builds kind st =
    rebuilt st [] _ (λ z. refl) (λ m z. settled-start m kind _ (settled-added m (added-all st.pending st.tree) z))

pub closed-builds : (st : State) → OnlyBuilds st (closed st)
unfolding closed
closed-builds st = rebuilt st st.pending _ (λ z. z) (λ m z. settled-finish m st.tree z)

pub wrapped-builds : (index : ℕ) (kind : SyntaxKind) (st : State) → OnlyBuilds st (wrapped_from index kind st)
unfolding wrapped_from
wrapped-builds index kind st = rebuilt st st.pending _ (λ z. z) (λ m z. settled-wrap m index kind st.tree z)

-- the depth and the greatest depth are all that changes
pub renested : (st : State) (d h : ℕ) → ReadsNothing st (record st { depth = d; high = h })
renested st d h = record {
  current = refl;
  items = refl;
  errors = refl;
  accepts = refl;
  waits = λ z. z;
  stays = λ m z. z;
}

pub leave-unread : {later last : State} → last ≡ leave later → ReadsNothing later last
unfolding leave
leave-unread {later = later} e =
    subst (λ (z : State). ReadsNothing later z) (sym e) (renested later (later.depth - 1) later.high)

pub unread-rest : {st last : State} → ReadsNothing st last → rest last ≡ rest st
unread-rest reads_nothing =
    ap₂ (λ (o : Option Lexeme) (xs : List Answer). current_tokens o ++ answers_tokens xs)
    reads_nothing.current reads_nothing.items

pub unread-seen : (now after : ℕ) {st last : State} → ReadsNothing st last → Seen now after st → Seen now after last
unread-seen now after {st = st} {last = last} reads_nothing seen =
    seen-same now after st last reads_nothing.current reads_nothing.items seen

pub unread-grows : {st last : State} → ReadsNothing st last → Grows st last
unread-grows {st = st} {last = last} reads_nothing = record {
  reports = reports-same st last reads_nothing.errors reads_nothing.accepts;
  stays = reads_nothing.stays;
}

pub run-grows : {rule : Rule} {next_state t : State} → Runs rule next_state t → Grows next_state t
run-grows run = record { reports = along reports-along run; stays = λ m. settled-added m (adds run).trees }

-- ---- what holds at a position

-- What is parsed: its sort, the lexer's answers and their tokens, and the recursion limit.
pub record ParserInput : Type 1 where
  pub sort : Sort
  pub answers : List Answer
  pub limit : ℕ
  pub words : List Token

module _ (R : ParserInput) where
  open R use {sort, answers, limit as lim, words as w}

  -- the start symbol
  abbrev pub top : ℕ
  top = start_symbol sort w

  -- the machine makes the tree, whatever tokens it leaves
  abbrev pub Made : Tree → Type 0
  Made tree = Makes (frame top 0 none ∷ []) w tree

  -- The greatest depth is within the limit, and the tree that the machine makes nests as deep.
  pub record Bounded (most bound : ℕ) : Type 0 where
    pub kept : most ≤ lim
    pub nested : (tree : Tree) → Made tree → most ≤ nesting_all tree
    pub limit : bound ≡ lim

  -- The depth agrees with the open nodes; the greatest depth covers what they nest.
  pub record Leveled (symbol state : ℕ) (this_level : Level) (forest : Forest) (fs : List Frame)
      (depth most bound : ℕ) : Type 0 where
    pub level : depth + counts_itself symbol ≡ depth_above fs symbol + level_entered this_level
    pub entered : level_entered this_level ≤ depth
    pub most_open : peak (frame symbol state forest ∷ fs) ≤ max most (depth + level_due symbol this_level)
    pub above : depth ≤ most
    pub bounds : Bounded most bound

  -- The machine reaches the open nodes before the tokens that are left.
  pub record MachineIsAt (symbol state : ℕ) (level : Level) (forest : Forest) (fs : List Frame)
      (st : State) : Type 0 where
    pub reach : Reach top w (frame symbol state forest ∷ fs) (rest st)
    pub leveled : Leveled symbol state level forest fs st.depth st.high st.limit
    pub alone : only_root symbol ≡ true → fs ≡ []

  -- The machine's open nodes, and the builder has the same ones with the same children.
  pub record OpenNodesAgree (symbol state : ℕ) (level : Level) (fs : List Frame) (st : State) : Type 0 where
    pub children : Forest
    pub machine : MachineIsAt symbol state level children fs st
    pub built : stack st.tree ≡ image (frame symbol state children ∷ fs)

  -- So many tokens are taken, and the nodes that ended before the last of them fit their rows.
  pub record TokensTaken (remaining : List Token) (building : Building) : Type 0 where
    pub count : ℕ
    pub before : TokensBefore sort answers lim w count remaining
    pub settled : Settled count building

  -- The machine is stuck before the current token, which is not yet reported.
  abbrev pub StuckUnreported : State → Type 0
  StuckUnreported st = Stuck sort answers lim w (rest st) × TokensTaken (rest st) st.tree

  -- what is known of the open nodes is so
  abbrev pub CertaintyHolds : Certainty → List Frame → State → Type 0
  CertaintyHolds Nothing fs st = ⊤
  CertaintyHolds OpenWhateverFollows fs st = Firm top w fs (rest st)
  CertaintyHolds AtLimit fs st = Firm top w fs (rest st) × (is_deep st ≡ true)

  -- what a position says of a state: the open nodes and what is known of them, or that the machine is stuck
  abbrev pub PositionHolds : ℕ → Position → List Frame → State → Type 0
  PositionHolds symbol (in_row state level certainty) fs st =
      (open_nodes_agree : OpenNodesAgree symbol state level fs st)
      × CertaintyHolds certainty (frame symbol state open_nodes_agree.children ∷ fs) st
  PositionHolds symbol machine_is_stuck fs st = StuckUnreported st

  abbrev pub ReportIsRight : Report → ℕ → Type 0
  ReportIsRight = RightReport sort answers lim w

  abbrev pub NoReportYet : State → Type 0
  NoReportYet st = NothingReported answers ReportIsRight st

  abbrev pub RightlyReported : State → Type 0
  RightlyReported st = FirstReportIsRight answers ReportIsRight st

  -- The state fits a position and the sets of the check, and nothing is reported yet.
  pub record StateFits (symbol : ℕ) (this_position : Position) (now after : ℕ) (fs : List Frame)
      (st : State) : Type 0 where
    pub no_report : NoReportYet st
    pub seen : Seen now after st
    pub position : PositionHolds symbol this_position fs st

  -- the state fits a position and sets for which the check of the rest holds
  abbrev pub Continues : ℕ → List Frame → Then → State → Type 0
  Continues symbol fs then next_state =
      (position : Position) × (u : ℕ) × (v : ℕ) × (then position u v ≡ true)
      × StateFits symbol position u v fs next_state

  -- how a run ends that keeps to the table: its first report is right, or it goes on
  abbrev pub RunOutcome : ℕ → List Frame → Then → State → Type 0
  RunOutcome symbol fs then next_state = RightlyReported next_state ⊎ Continues symbol fs then next_state

  pub rightly-on : (next_state t : State) → Grows next_state t → RightlyReported next_state → RightlyReported t
  rightly-on next_state t grows rightly_reported =
      first-right-on answers ReportIsRight next_state t grows rightly_reported

  pub limit-known-holds : (symbol : ℕ) (fs : List Frame) (st : State) (position : Position) → is_deep st ≡ true
      → PositionHolds symbol position fs st
      → PositionHolds symbol (with_limit_known position) fs st
  limit-known-holds symbol fs st (in_row state level Nothing) e position_holds = position_holds
  limit-known-holds symbol fs st (in_row state level OpenWhateverFollows) e position_holds =
      (position_holds.0, (position_holds.1, e))
  limit-known-holds symbol fs st (in_row state level AtLimit) e position_holds = position_holds
  limit-known-holds symbol fs st machine_is_stuck e position_holds = position_holds

  pub certainly-open : (certainty : Certainty) (fs : List Frame) (st : State) → open_whatever_follows certainty ≡ true
      → CertaintyHolds certainty fs st
      → Firm top w fs (rest st)
  certainly-open Nothing fs st h certainty_holds = false-true refl h
  certainly-open OpenWhateverFollows fs st h certainty_holds = certainty_holds
  certainly-open AtLimit fs st h certainty_holds = certainty_holds.0

  pub certainty-forgotten : (certainty : Certainty) (fs : List Frame) (st last : State) → rest last ≡ rest st
      → CertaintyHolds certainty fs st
      → CertaintyHolds (limit_forgotten certainty) fs last
  certainty-forgotten Nothing fs st last e certainty_holds = tt
  certainty-forgotten OpenWhateverFollows fs st last e certainty_holds = rw e certainty_holds
  certainty-forgotten AtLimit fs st last e certainty_holds = rw e certainty_holds.0

  abbrev pub start_begins : begins_parse top ≡ true
  start_begins = opens sort (first_class w)

  pub unread-no-report : {st last : State} → ReadsNothing st last → NoReportYet st → NoReportYet last
  unread-no-report reads_nothing no_report_yet = record {
    quiet = record {
      clean = reads_nothing.errors ∙ no_report_yet.quiet.clean;
      accepts = reads_nothing.accepts ∙ no_report_yet.quiet.accepts;
      waits = reads_nothing.waits no_report_yet.quiet.waits;
    };
    now = rw (reads_nothing.current, reads_nothing.items) no_report_yet.now;
    held = rw (reads_nothing.current, reads_nothing.items) no_report_yet.held;
  }

  -- the current token
  pub current : (st : State) → NoReportYet st
      → (lexeme : Lexeme) × (st.current ≡ Some lexeme) × Now (Some lexeme) st.items
      × Held answers (Some lexeme) st.items
  current st no_report_yet = (elim st.current as (λ o. Now o st.items → Held answers o st.items
      → (t : Lexeme) × (o ≡ Some t) × Now (Some t) st.items × Held answers (Some t) st.items) [
        | None ↦ λ n h. absurd n
        | Some t ↦
            λ n h. (t, refl, n, h)
      ]) no_report_yet.now no_report_yet.held

  pub shown : (st : State) → NoReportYet st → Shown st.current
  shown st no_report_yet = let t = current st no_report_yet in rw t.1 t.2.0

  -- ---- reports

  pub note-rightly : (message : Message) (st : State) → NoReportYet st → Stuck sort answers lim w (rest st)
      → TokensTaken (rest st) st.tree
      → RightlyReported (note message st)
  note-rightly message st no_report_yet stuck tokens_taken =
      let t = current st no_report_yet in
      let right : ReportIsRight (fault_report message t.0) tokens_taken.count =
      stuck_here message t.2 t.3 (rw t.1 at stuck) (rw t.1 at tokens_taken.before) in
      subst RightlyReported (sym (note-is message st t.0 t.1 no_report_yet.quiet.accepts))
      (first-right answers ReportIsRight tokens_taken.count (fault_report message t.0) st _ no_report_yet.quiet refl
      right tokens_taken.settled)

  pub limit-rightly : (st : State) → NoReportYet st → TooMany sort answers lim w (rest st)
      → TokensTaken (rest st) st.tree → RightlyReported (too_deep st)
  limit-rightly st no_report_yet too_many tokens_taken =
      let t = current st no_report_yet in
      let right = deep_here t.2 t.3 (rw t.1 at too_many) (rw t.1 at tokens_taken.before) in
      subst RightlyReported (sym (too_deep-is st t.0 t.1 no_report_yet.quiet.accepts))
      (first-right answers ReportIsRight tokens_taken.count (recursion_limit_report t.0) st _ no_report_yet.quiet refl
      right tokens_taken.settled)

  -- ---- what is taken

  pub spent-before : (fs : List Frame) (remaining : List Token) → Reach top w fs remaining
      → TokensBefore sort answers lim w (length (spent fs)) remaining
  spent-before fs remaining reach = sym (ap length (reach-spent reach) ∙ length-append (spent fs) remaining)

  pub fitting : (fs : List Frame) (remaining : List Token) → Reach top w fs remaining
      → Fitting (length (spent fs)) (image fs)
  fitting fs remaining reach = fitting-image top fs (reach-sound (start-no-leaf top start_begins) reach)

  pub agree-taken : {symbol state : ℕ} {level : Level} {fs : List Frame} {st : State}
      → OpenNodesAgree symbol state level fs st → TokensTaken (rest st) st.tree
  agree-taken {symbol = symbol} {state = state} {fs = fs} {st = st} open_nodes_agree =
      let gs : List Frame = frame symbol state open_nodes_agree.children ∷ fs in
      record {
        count = length (spent gs);
        before = spent-before gs (rest st) open_nodes_agree.machine.reach;
        settled = settled-at (length (spent gs)) st.tree (image gs) open_nodes_agree.built
            (fitting gs (rest st) open_nodes_agree.machine.reach);
      }

  pub taken-at : (symbol : ℕ) (position : Position) (fs : List Frame) (st : State) → PositionHolds symbol position fs st
      → TokensTaken (rest st) st.tree
  taken-at symbol (in_row state level certainty) fs st position_holds = agree-taken position_holds.0
  taken-at symbol machine_is_stuck fs st position_holds = position_holds.1

  pub unread-stuck : {st last : State} → ReadsNothing st last → StuckUnreported st → StuckUnreported last
  unread-stuck {last = last} reads_nothing stuck_unreported = rw (unread-rest reads_nothing) (
    stuck_unreported.0,
    record {
      count = stuck_unreported.1.count;
      before = stuck_unreported.1.before;
      settled = reads_nothing.stays stuck_unreported.1.count stuck_unreported.1.settled;
    },
  )

  -- ---- levels

  pub leveled-enter : {symbol state : ℕ} {this_level : Level} {forest : Forest} {fs : List Frame} {d h m : ℕ}
      → level_entered this_level ≡ 0 → suc d ≤ m
      → ((tree : Tree) → Made tree → d < nesting_all tree) → Leveled symbol state this_level forest fs d h m
      → Leveled symbol state Entered forest fs (d + 1) (max h (d + 1)) m
  leveled-enter {symbol = symbol} {this_level = this_level} r b n leveled = record {
    level = omega (arith, r);
    entered = omega arith;
    most_open = let o = due-le symbol this_level in omega (arith, o);
    above = omega arith;
    bounds = record {
      kept = omega (arith, leveled.bounds.kept);
      nested = λ t p. omega (arith, leveled.bounds.nested t p, n t p);
      limit = leveled.bounds.limit;
    };
  }

  pub leveled-leave : {symbol state : ℕ} {forest : Forest} {fs : List Frame} {d h m : ℕ}
      → Leveled symbol state Entered forest fs d h m
      → Leveled symbol state Left forest fs (d - 1) h m
  leveled-leave leveled =
      record {
        level = omega arith;
        entered = omega arith;
        most_open = omega arith;
        above = omega arith;
        bounds = leveled.bounds;
      }

  pub leveled-leaf : {symbol state : ℕ} {this_level : Level} {forest : Forest} {fs : List Frame} {d h m : ℕ}
      (child p : ℕ) (text : Text) → is_leaf child ≡ true
      → Leveled symbol state this_level forest fs d h m
      → Leveled symbol p this_level (forest +++ (leaf child text ▸ none)) fs d h m
  leveled-leaf {symbol = symbol} {state = state} {forest = forest} {fs = fs} child p text i leveled =
      record {
        level = leveled.level;
        entered = leveled.entered;
        most_open = omega (arith, peak-shift symbol state p child text forest fs i);
        above = leveled.above;
        bounds = leveled.bounds;
      }

  pub leveled-begin : {symbol state : ℕ} {this_level : Level} {forest : Forest} {fs : List Frame} {d h m : ℕ} (j : ℕ)
      → levels_agree symbol this_level j ≡ true
      → Leveled symbol state this_level forest fs d h m
      → Leveled j 0 NotEntered none (frame symbol state forest ∷ fs) d h m
  unfolding levels_agree
  leveled-begin {symbol = symbol} {state = state} {forest = forest} {fs = fs} j e leveled =
      let a = eqb-true _ _ (and-l _ _ e) in
      let b = eqb-true _ _ (and-r _ _ e) in
      record {
        level = omega (arith, a);
        entered = omega arith;
        most_open = omega (arith, a, b, peak-open symbol state j forest fs);
        above = leveled.above;
        bounds = leveled.bounds;
      }

  pub leveled-end : {symbol state j p : ℕ} {this_level other_level : Level} {forest more_trees : Forest}
      {fs : List Frame} {d h n d' h' n' : ℕ} (o : ℕ)
      → levels_agree symbol this_level j ≡ true → level_entered other_level ≡ 0 → level_due j other_level ≡ 0
      → Leveled symbol state this_level forest fs d h n
      → Leveled j p other_level more_trees (frame symbol state forest ∷ fs) d' h' n'
      → Leveled symbol o this_level (forest +++ (node j more_trees ▸ none)) fs d' h' n'
  unfolding levels_agree
  leveled-end {symbol = symbol} {state = state} {j = j} {p = p} {forest = forest} {more_trees = more_trees} {fs = fs} o
      e r u leveled second_leveled =
      let a = eqb-true _ _ (and-l _ _ e) in
      record {
        level = omega (arith, a);
        entered = omega (arith, a);
        most_open = omega (arith, a, peak-close symbol state o j p forest more_trees fs);
        above = second_leveled.above;
        bounds = second_leveled.bounds;
      }

  pub still-leveled : {symbol state : ℕ} {level : Level} {forest : Forest} {fs : List Frame} {st last : State}
      → OnlyBuilds st last
      → Leveled symbol state level forest fs st.depth st.high st.limit
      → Leveled symbol state level forest fs last.depth last.high last.limit
  still-leveled only_builds leveled = rw (only_builds.depth, only_builds.high, only_builds.limit) leveled

  -- the rule goes on elsewhere
  pub moved-on : {symbol s' now after : ℕ} {this_position other_position : Position}
      {fs fs' : List Frame} {st last : State}
      → StateFits symbol this_position now after fs st → ReadsNothing st last → PositionHolds s' other_position fs' last
      → StateFits s' other_position now after fs' last
  moved-on {now = now} {after = after} state_fits reads_nothing position_holds =
      record {
        no_report = unread-no-report reads_nothing state_fits.no_report;
        seen = unread-seen now after reads_nothing state_fits.seen;
        position = position_holds;
      }
