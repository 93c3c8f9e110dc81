-- A run of a root's rule over the answers, where a part of a document is parsed by itself: its first report is right;
-- or it reports nothing, and the tree without its ignored leaves is a derivation of the tokens that were taken. More
-- may follow them.
use Rattle.std.proofs.Common.{◌≡◌, ℕ, ◌≤◌, true, eqb, List, [], ◌∷◌, ◌++◌, Option, Some, None, refl, sym, ap, ◌∙◌}
use Rattle.std.proofs.Common.{subst, ◌⊎◌, inl, inr, eqb-true}
use Rattle.std.proofs.lemmas.Bool.{eqb-false}
use Rattle.lexical_grammar.specs.Answers.{Answer}
use Rattle.lexical_grammar.specs.declared.TokenKind.TheVariants as token
use Rattle.document_grammar.proofs.Booleans.{either, false-true, and-l, and-r}
use Rattle.document_grammar.specs.Booleans.{◌or◌}
use Rattle.document_grammar.specs.Builds.{Building, nothing, start}
use Rattle.document_grammar.specs.Derivation.{Sort, selections, Spells, nest}
use Rattle.document_grammar.specs.Kinds.{L_CURLY}
use Rattle.document_grammar.specs.Numbered.{tree_of}
use Rattle.document_grammar.specs.Pattern.{member}
use Rattle.document_grammar.specs.Placed.{bare}
use Rattle.document_grammar.specs.Tree.{Token, Tree, node, Forest, none}
use Rattle.document_grammar.specs.declared.kind.SyntaxKind.{SyntaxKind}
use Rattle.document_grammar.specs.declared.kind.SyntaxKind.TheVariants as kind
use Rattle.grammar_machine.proofs.FromMachineTree.{shows, show, show-root}
use Rattle.grammar_machine.proofs.Patterns.{label}
use Rattle.grammar_machine.proofs.Run.{next}
use Rattle.grammar_machine.proofs.Sound.{any, holds-one, first-any}
use Rattle.grammar_machine.proofs.Steps.{closes-move}
use Rattle.grammar_machine.proofs.TableLemmas.{no-cons}
use Rattle.grammar_machine.proofs.generated.Labels.{labels}
use Rattle.grammar_machine.specs.Machine.{holds as within, first as first_class, second as second_class, yields}
use Rattle.grammar_machine.specs.Machine.{opening, close as closes_move, frame}
use Rattle.parser_rules.proofs.fragments.RootChecks.{follows_part, selections_follow}
use Rattle.parser_rules.proofs.lookahead.MachineClasses.{Next, current-class}
use Rattle.parser_rules.proofs.lookahead.Split.{OpenWhateverFollows, in_row, machine_is_stuck, at_root_start}
use Rattle.parser_rules.proofs.lookahead.TokenSets.{class_of, kind_set, holds-minus}
use Rattle.parser_rules.proofs.reports.NoReport.{answers_tokens, all_tokens, rest, given as given_by, EndsWell}
use Rattle.parser_rules.proofs.runs.Frame.{read-untouched}
use Rattle.parser_rules.proofs.runs.Fuel.{rules_deep}
use Rattle.parser_rules.proofs.soundness.MachineStack.{image, image-node}
use Rattle.parser_rules.proofs.soundness.Moves.{next-classes, with-sets, flushed}
use Rattle.parser_rules.proofs.soundness.Positions.{ParserInput, top, PositionHolds, StateFits, RightlyReported}
use Rattle.parser_rules.proofs.soundness.Positions.{RunOutcome, rightly-on, run-grows, current, OnlyBuilds}
use Rattle.parser_rules.proofs.soundness.Positions.{flush-builds, unread-rest, unread-grows, certainty-forgotten}
use Rattle.parser_rules.proofs.soundness.Positions.{still-leveled, moved-on}
use Rattle.parser_rules.proofs.soundness.Roots.{input_of, IsRootSymbol, Begins, symbol-begins, first_state, root-starts}
use Rattle.parser_rules.proofs.soundness.Roots.{root-ended, never-right}
use Rattle.parser_rules.proofs.soundness.Simulation.{checked, simulation}
use Rattle.parser_rules.proofs.soundness.Soundness.{finished-tree, words-before}
use Rattle.parser_rules.proofs.soundness.TableCheck.{Then, counts_itself, absent_as_end, no_brace, part_may_end}
use Rattle.parser_rules.proofs.soundness.TableCheck.{keeps_to_table}
use Rattle.parser_rules.proofs.soundness.WithoutIgnored.{stack}
use Rattle.parser_rules.specs.Fragments.{started, left_out, field_set}
use Rattle.parser_rules.specs.Open.{IsRoot}
use Rattle.parser_rules.specs.RuleLanguage.{Rule}
use Rattle.parser_rules.specs.Runs.{Runs}
use Rattle.parser_rules.specs.State.{State, Lexeme, ignored, read_on, flush, finished}

-- All answers before the current token are tokens; a derivation of the sort spells them. It nests within the limit, and
-- as deep as the greatest depth.
pub record PartAs (sort : Sort) (max_depth : ℕ) (xs : List Answer) (state : State) (tree : Tree) : Type 0 where
  pub front : List Answer
  pub lexeme : Lexeme
  pub current : state.current ≡ Some lexeme
  pub shown : ignored lexeme.kind ≡ None
  pub split : xs ≡ front ++ given_by lexeme ∷ state.items
  pub tokens : all_tokens front ≡ true
  pub spells : Spells (answers_tokens front) tree sort
  pub nesting : nest tree ≤ max_depth
  pub high : state.high ≡ nest tree
  -- over a sentence it is the sentence's derivation
  pub all : (this_tree : Tree) → Spells (answers_tokens xs) this_tree sort → tree ≡ this_tree

-- The outcome of a run that reports nothing: the derivation is the tree.
abbrev pub Part : Sort → ℕ → List Answer → State → Type 0
Part sort max_depth xs state = PartAs sort max_depth xs state (bare (tree_of (finished (left_out state))))

-- ---- any root

module _ (sort : Sort) (max_depth : ℕ) (xs : List Answer) where
  abbrev R : ParserInput
  R = input_of sort max_depth xs

  -- A rule keeps to the machine from where this is built, after a first token whose class is in a set.
  pub record Keeps (building : Building) (then : Then) (rule : Rule) : Type 0 where
    pub begins : Begins (top R) building
    pub set : ℕ
    pub follows : keeps_to_table rules_deep (top R) at_root_start set any rule then ≡ true
    pub first : within (first_class (answers_tokens xs)) set ≡ true

  -- the first token is read, and what comes before it is built
  abbrev pub first_token : Building → State
  first_token building = flush (read_on xs (first_state xs max_depth building))

  -- no token is built there
  pub record Starts (building : Building) (set : ℕ) : Type 0 where
    pub fits : StateFits R (top R) at_root_start set any [] (first_token building)
    pub built : stack (first_token building).tree ≡ stack building

  pub part-starts : {building : Building} {then : Then} {rule : Rule} (kept : Keeps building then rule) → EndsWell xs
      → RightlyReported R (first_token building) ⊎ Starts building kept.set
  unfolding flush
  part-starts {building = building} kept ends_well =
      let state : State = read_on xs (first_state xs max_depth building) in
      let only_builds : OnlyBuilds state (flush state) = flush-builds state in
      elim (root-starts sort max_depth xs kept.begins ends_well) [
        | inl o ↦ inl (rightly-on R state (flush state) (unread-grows only_builds.reads_nothing) o)
        | inr g ↦ (
            let c = g.0.position.0 in
            let position : PositionHolds R (top R) at_root_start [] (flush state) = (
              record {
                children = c.children;
                machine = record {
                  reach = rw (unread-rest only_builds.reads_nothing) c.machine.reach;
                  leveled = still-leveled R only_builds c.machine.leveled;
                  alone = c.machine.alone;
                };
                built = flushed R state g.0.no_report ∙ c.built;
              },
              certainty-forgotten R OpenWhateverFollows (frame (top R) 0 c.children ∷ []) state (flush state)
                  (unread-rest only_builds.reads_nothing) g.0.position.1,
            ) in
            let near : within (class_of state.current) kept.set ≡ true =
            rw (current-class state.current state.items g.0.no_report.now, g.1) kept.first in
            inr (record {
              fits = moved-on R (with-sets R g.0 (record { near = near; far = g.0.seen.far }))
                  only_builds.reads_nothing position;
              built = flushed R state g.0.no_report
                  ∙ ap stack (read-untouched xs (first_state xs max_depth building)).tree;
            }))
      ]

  pub part-runs : {building : Building} {then : Then} {rule : Rule} {state : State} (kept : Keeps building then rule)
      → Starts building kept.set
      → Runs rule (first_token building) state → RunOutcome R (top R) [] then state
  part-runs {then = then} {rule = rule} kept starts run =
      simulation R run rules_deep (top R) at_root_start kept.set any [] then
      (checked R rules_deep (top R) at_root_start kept.set any rule then kept.follows) starts.fits

  -- Nothing is reported, and the machine's root may end.
  pub record Ended (this_state : State) : Type 0 where
    pub silent : this_state.errors ≡ []
    pub state : ℕ
    pub children : Forest
    pub built : stack this_state.tree ≡ image (frame (top R) state children ∷ [])
    -- whatever is built of it
    pub part : (building : Building)
        → PartAs sort max_depth xs (record this_state { tree = building }) (show (node (top R) children))

  pub part-out : (this_state : State) → RunOutcome R (top R) [] (part_may_end (top R)) this_state
      → RightlyReported R this_state ⊎ Ended this_state
  unfolding part_may_end
  part-out this_state (inl t) = inl t
  part-out this_state (inr (machine_is_stuck, x, y, h, g)) = false-true refl h
  part-out this_state (inr (in_row q level certainty, x, y, h, g)) =
      let c = g.position.0 in
      let forest : Forest = c.children in
      let n : Next x y (rest this_state) = next-classes R g in
      let m : next (top R) q (rest this_state) ≡ closes_move =
      closes-move (top R) q x (absent_as_end y) (first_class (rest this_state))
      (second_class (rest this_state)) (and-l _ _ h) n.near n.far in
      let e = root-ended R c.machine m (eqb-true _ _ (and-r _ _ (and-r _ _ h))) in
      let t = current R this_state g.no_report in
      let words : answers_tokens xs ≡ yields forest ++ answers_tokens (given_by t.0 ∷ this_state.items) = e.split
      ∙ ap (λ (z : Option Lexeme). yields forest ++ rest (record this_state { current = z })) t.1 in
      let held = t.3 in
      inr (record {
        silent = g.no_report.quiet.clean;
        state = q;
        children = forest;
        built = c.built;
        part = λ b. record {
          front = held.front;
          lexeme = t.0;
          current = t.1;
          shown = t.2.0;
          split = held.split;
          tokens = held.tokens;
          spells = subst (λ (v : List Token). Spells v (show (node (top R) forest)) sort)
              (words-before xs held.front (given_by t.0 ∷ this_state.items) (yields forest) held.split words) e.spells;
          nesting = e.nesting;
          high = e.high;
          all = λ u h. (e.all u h).1;
        };
      })

  -- The outcome of a run: a report, of which the first is right; or none, and the tree is a derivation.
  abbrev pub Outcome : State → Type 0
  Outcome state = RightlyReported R state ⊎ ((state.errors ≡ []) × Part sort max_depth xs state)

  -- Soundness.
  pub outcome-sound : {state : State} → Outcome state → state.errors ≡ [] → Part sort max_depth xs state
  outcome-sound o h = elim o [ inl o ↦ no-cons (sym h ∙ o.reported) | inr o ↦ o.1 ]

  -- Acceptance.
  pub outcome-accepted : {state : State} → Outcome state → (tree : Tree) → Spells (answers_tokens xs) tree sort
      → nest tree ≤ max_depth → all_tokens xs ≡ true
      → state.errors ≡ []
  outcome-accepted o tree spells n a =
      elim o [ inl o ↦ absurd (never-right sort max_depth xs o.report o.taken tree spells n a o.right) | inr o ↦ o.0 ]

-- ---- a root that is open from the beginning

module _ (sort : Sort) (max_depth : ℕ) (xs : List Answer) (this_kind : SyntaxKind) where
  abbrev S : ℕ
  S = top (input_of sort max_depth xs)

  pub record Follows (rule : Rule) : Type 0 where
    pub symbol : IsRootSymbol S this_kind
    pub keeps : Keeps sort max_depth xs (start this_kind nothing) (part_may_end S) rule

  pub part-parsed : {rule : Rule} {state : State} → Follows rule → EndsWell xs → IsRoot state.tree
      → Runs rule (started xs max_depth this_kind) state
      → Outcome sort max_depth xs state
  part-parsed {state = state} follows ends_well root run =
      elim (part-starts sort max_depth xs follows.keeps ends_well) [
        | inl o ↦ inl (rightly-on (input_of sort max_depth xs) (started xs max_depth this_kind) state (run-grows run) o)
        | inr g ↦ elim (part-out sort max_depth xs state (part-runs sort max_depth xs follows.keeps g run)) [
          | inl o ↦ inl o
          | inr o ↦ (
              let f : Forest = o.children in
              let built : stack state.tree ≡ (label S, shows f) ∷ ((0, none) ∷ []) =
              o.built ∙ image-node S o.state f [] follows.symbol.no_type in
              let tree : bare (tree_of (finished (left_out state))) ≡ show (node S f) =
              finished-tree (left_out state) (label S, shows f)
              ((0, none) ∷ []) root built ∙ sym (show-root S f follows.symbol.no_type) in
              inr (o.silent, rw tree (o.part state.tree)))
        ]
      ]

-- ---- selection sets

-- with braces, or without
record Opens (s a : ℕ) : Type 0 where
  symbol : IsRootSymbol s kind.SELECTION_SET
  set : ℕ
  follows : follows_part s set field_set
  first : within a set ≡ true

brace : within L_CURLY (kind_set token.LCurly) ≡ true
unfolding within
brace = refl

opens-by-class : (a : ℕ) → within a any ≡ true → Opens (opening selections a) a
unfolding label labels counts_itself ◌or◌ member
opens-by-class a h = elim (either (eqb a L_CURLY)) [
  | inl p ↦ rw p (record {
    symbol = record { shown = refl; counted = refl; no_type = refl };
    set = kind_set token.LCurly;
    follows = selections_follow.0;
    first = rw (eqb-true a L_CURLY p) brace;
  })
  | inr p ↦ rw p (record {
    symbol = record { shown = refl; counted = refl; no_type = refl };
    set = no_brace;
    follows = selections_follow.1;
    first = holds-minus a any (kind_set token.LCurly) h (elim (either (within a (kind_set token.LCurly))) [
      | inl q ↦ absurd
          (eqb-false a L_CURLY p (holds-one a L_CURLY q))
      | inr q ↦ q
    ]);
  })
]

pub selections-root : (max_depth : ℕ) (xs : List Answer) → Follows selections max_depth xs kind.SELECTION_SET field_set
selections-root max_depth xs =
    let o = opens-by-class (first_class (answers_tokens xs)) (first-any (answers_tokens xs)) in
    record {
      symbol = o.symbol;
      keeps = record { begins = symbol-begins o.symbol; set = o.set; follows = o.follows; first = o.first };
    }
