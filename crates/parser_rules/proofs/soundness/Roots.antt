-- A root where it is opened, and where the machine ends it: for each sort of text.
use Rattle.std.proofs.Common.{◌≡◌, ℕ, ◌≤◌, true, false, eqb, List, [], ◌∷◌, ◌++◌, length, refl, sym, ap, ◌∙◌, subst}
use Rattle.std.proofs.Common.{◌⊎◌, inl, inr, arith}
use Rattle.lexical_grammar.specs.Answers.{Answer, is_token}
use Rattle.document_grammar.proofs.Booleans.{false-true, and-l, and-r}
use Rattle.document_grammar.specs.Builds.{Building, nothing, start as start_node}
use Rattle.document_grammar.specs.Derivation.{Sort, Spells, nest}
use Rattle.document_grammar.specs.Kinds.{DOCUMENT}
use Rattle.document_grammar.specs.Numbers.{number}
use Rattle.document_grammar.specs.Tree.{Token, Tree, node, Forest, none}
use Rattle.document_grammar.specs.declared.kind.SyntaxKind.{SyntaxKind}
use Rattle.document_grammar.specs.declared.kind.SyntaxKind.TheVariants as kind
use Rattle.grammar_machine.proofs.Depth.{count_in, nesting_all, nest-show, peak-end, peak-start}
use Rattle.grammar_machine.proofs.FromMachineTree.{show}
use Rattle.grammar_machine.proofs.MachineTheorems.{Parse, done}
use Rattle.grammar_machine.proofs.Makes.{made, makes-from}
use Rattle.grammar_machine.proofs.Patterns.{label}
use Rattle.grammar_machine.proofs.Run.{next}
use Rattle.grammar_machine.proofs.SentenceTheorems.{start_symbol, sentence-parse, accepts, sound as ended_sound}
use Rattle.grammar_machine.proofs.SentenceTheorems.{sound-all}
use Rattle.grammar_machine.proofs.Sound.{any}
use Rattle.grammar_machine.specs.Machine.{yields, frame, Reach, start, close as closes_move}
use Rattle.grammar_machine.specs.Symbols.{TYPE}
use Rattle.parser_rules.proofs.lookahead.Split.{Level, NotEntered, at_root_start}
use Rattle.parser_rules.proofs.lookahead.TokenSets.{seen-any}
use Rattle.parser_rules.proofs.reports.NoReport.{answers_tokens, all_tokens, rest, given as given_by, EndsWell}
use Rattle.parser_rules.proofs.reports.NoReport.{WouldBeRight, read-on}
use Rattle.parser_rules.proofs.runs.Frame.{Untouched, read-untouched}
use Rattle.parser_rules.proofs.runs.Reading.{reading}
use Rattle.parser_rules.proofs.soundness.FirstReport.{RightReport, stuck_here, deep_here, no_token}
use Rattle.parser_rules.proofs.soundness.MachineStack.{image, image-node}
use Rattle.parser_rules.proofs.soundness.Positions.{ParserInput, top, start_begins, Leveled, MachineIsAt, PositionHolds}
use Rattle.parser_rules.proofs.soundness.Positions.{StateFits, RightlyReported, ReportIsRight, shown, fitting}
use Rattle.parser_rules.proofs.soundness.Settled.{Settled, settled-at}
use Rattle.parser_rules.proofs.soundness.TableCheck.{counts_itself, level_due}
use Rattle.parser_rules.proofs.soundness.WithoutIgnored.{stack}
use Rattle.parser_rules.specs.State.{State, Report, read_on, fresh}

-- all the answers, to a parser with nothing reported
abbrev pub input_of : Sort → ℕ → List Answer → ParserInput
input_of sort max_depth xs = record { sort = sort; answers = xs; limit = max_depth; words = answers_tokens xs }

-- The symbol is a root's, whose node is of the kind.
pub record IsRootSymbol (s : ℕ) (this_kind : SyntaxKind) : Type 0 where
  pub shown : label s ≡ number this_kind
  pub counted : count_in DOCUMENT s ≡ counts_itself s
  pub no_type : eqb s TYPE ≡ false

-- Where this alone is built, the machine begins with the symbol.
pub record Begins (s : ℕ) (building : Building) : Type 0 where
  pub counted : count_in DOCUMENT s ≡ counts_itself s
  pub built : stack building ≡ image (frame s 0 none ∷ [])

-- the root is open
pub symbol-begins : {s : ℕ} {this_kind : SyntaxKind} → IsRootSymbol s this_kind
    → Begins s (start_node this_kind nothing)
symbol-begins {s = s} is_root_symbol = record {
  counted = is_root_symbol.counted;
  built = ap (λ (j : ℕ). (j, none) ∷ ((0, none) ∷ [])) (sym is_root_symbol.shown)
      ∙ sym (image-node s 0 none [] is_root_symbol.no_type);
}

-- this is built, and nothing is read
abbrev pub first_state : List Answer → ℕ → Building → State
first_state xs max_depth building = record (fresh xs max_depth kind.ERROR) { tree = building }

-- ---- the beginning

module _ (sort : Sort) (max_depth : ℕ) (xs : List Answer) where
  abbrev R : ParserInput
  R = input_of sort max_depth xs

  module _ {building : Building} (begins : Begins (top R) building) where
    pub root-level : Leveled R (top R) 0 NotEntered none [] 0 0 max_depth
    root-level = record {
      level = omega (arith, begins.counted);
      entered = omega arith;
      most_open = omega (arith, peak-start (top R), begins.counted);
      above = omega arith;
      bounds = record { kept = omega arith; nested = λ t p. omega arith; limit = refl };
    }

    -- where nothing else is built, and all the tokens are left
    pub root-opened : (n m : ℕ) (ys : List Answer) (state : State)
        → Untouched (record (first_state ys max_depth building) { asked = n; budget = m }) state
        → rest state ≡ answers_tokens xs → PositionHolds R (top R) at_root_start [] state
    root-opened n m ys state untouched e = (
      record {
        children = none;
        machine = record {
          reach = subst (λ (z : List Token). Reach (top R) (answers_tokens xs) (frame (top R) 0 none ∷ []) z)
              (sym e) start;
          leveled = rw (untouched.depth, untouched.high, untouched.limit) root-level;
          alone = λ e. refl;
        };
        built = ap stack untouched.tree ∙ begins.built;
      },
      record { before = []; split = sym e; firm = λ v f. start },
    )

    pub root-starts : EndsWell xs → let s = read_on xs (first_state xs max_depth building) in
        RightlyReported R s ⊎ (StateFits R (top R) at_root_start any any [] s × (rest s ≡ answers_tokens xs))
    root-starts e =
        let state : State = first_state xs max_depth building in
        let after : State = read_on xs state in
        elim (read-on xs (ReportIsRight R) (reading xs state) 0
        (record { clean = refl; accepts = refl; waits = refl }) e
        (record { front = []; split = refl; tokens = refl }) blame settled) [
          | inl o' ↦ inl o'
          | inr o' ↦ inr (
            record {
              no_report = o'.0;
              seen = seen-any after (shown R after o'.0);
              position = root-opened state.asked state.budget xs after (read-untouched xs state) o'.1;
            },
            o'.1,
          )
        ]
      where
        settled : Settled 0 building
        settled = settled-at 0 building (image (frame (top R) 0 none ∷ [])) begins.built
            (fitting R (frame (top R) 0 none ∷ []) (answers_tokens xs) start)

        blame : WouldBeRight xs (ReportIsRight R) 0 (answers_tokens xs)
        blame x ys p n z = no_token p n (
          frame (top R) 0 none ∷ [],
          subst (λ (u : List Token). Reach (top R) (answers_tokens xs) (frame (top R) 0 none ∷ []) u)
              (sym z) start,
        ) (let e = ap length z in omega (arith, e))

-- ---- the end

-- The root's node is a derivation of the tokens before the rest; it nests within the limit, and as deep as the greatest
-- depth.
pub record IsEnded (R : ParserInput) (forest : Forest) (state : State) : Type 0 where
  pub split : R.words ≡ yields forest ++ rest state
  pub spells : Spells (yields forest) (show (node (top R) forest)) R.sort
  pub nesting : nest (show (node (top R) forest)) ≤ R.limit
  pub high : state.high ≡ nest (show (node (top R) forest))
  -- over a sentence all is taken, and it is the sentence's derivation
  pub all : (tree : Tree) → Spells R.words tree R.sort → (rest state ≡ []) × (show (node (top R) forest) ≡ tree)

pub root-ended : (R : ParserInput) {q : ℕ} {level : Level} {forest : Forest} {state : State}
    → MachineIsAt R (top R) q level forest [] state
    → next (top R) q (rest state) ≡ closes_move → level_due (top R) level ≡ 0 → IsEnded R forest state
root-ended R {q = q} {level = level} {forest = forest} {state = state} machine_is_at m owes =
    let d = ended_sound R.sort R.words forest (rest state) (q, machine_is_at.reach, m) in
    let p = (done (top R) (start_begins R) R.words q forest (rest state) machine_is_at.reach m).1 in
    let nests = nest-show (node (top R) forest) p.0 in
    let end = peak-end (top R) q forest in
    let lv = machine_is_at.leveled in
    let deepest = lv.bounds.nested (node (top R) forest) (makes-from machine_is_at.reach (made m)) in
    record {
      split = d.0;
      spells = d.1;
      nesting = omega (arith, lv.most_open, lv.above, owes, nests, end, lv.bounds.kept);
      high = omega (arith, lv.most_open, lv.above, owes, nests, end, deepest);
      all = λ t h. sound-all R.sort R.words t forest (rest state) h (q, machine_is_at.reach, m);
    }

-- ---- acceptance

token-of-all : (front items : List Answer) (answer : Answer) → all_tokens (front ++ answer ∷ items) ≡ true
    → is_token answer ≡ true
token-of-all [] items answer h = and-l _ _ h
token-of-all (other_answer ∷ front) items answer h = token-of-all front items answer (and-r _ _ h)

-- over a sentence within the limits no report is right
pub never-right : (sort : Sort) (max_depth : ℕ) (xs : List Answer) (report : Report) (m : ℕ) (tree : Tree)
    → Spells (answers_tokens xs) tree sort
    → nest tree ≤ max_depth → all_tokens xs ≡ true → RightReport sort xs max_depth (answers_tokens xs) report m → ⊥
never-right sort max_depth xs report m tree spells n a
    (stuck_here said {lexeme = lexeme} {items = items} now held stuck tokens_before) =
    accepts sort (answers_tokens xs) (answers_tokens (given_by lexeme ∷ items)) tree spells stuck.0
never-right sort max_depth xs report m tree spells n a
    (deep_here {lexeme = lexeme} {items = items} now held too_many tokens_before) =
    let u = sentence-parse sort (answers_tokens xs) tree spells in
    let d = too_many.deeper u.0 (answers_tokens (given_by lexeme ∷ items))
    (subst (λ (z : List Token). Parse (start_symbol sort (answers_tokens xs)) u.0 z) too_many.split u.1) refl in
    let nests : nest tree ≡ nesting_all u.0 = ap nest (sym u.2) ∙ nest-show u.0 u.1.0 in
    absurd (omega (arith, d, nests, n))
never-right sort max_depth xs report m tree spells n a
    (no_token {answer = answer} {items = items} passed other_one viable tokens_before) =
    false-true other_one (token-of-all passed.front items answer
    (subst (λ (z : List Answer). all_tokens z ≡ true) passed.split a))
