-- A run of the document's rule over a text: its first report is right; or it reports nothing, and the text is a
-- sentence within both limits, whose derivation is the tree without its ignored leaves.
use Rattle.std.proofs.Common.{◌≡◌, ℕ, zero, suc, ◌≤◌, Bool, cond, true, false, List, [], ◌∷◌, ◌++◌, Option, Some, None}
use Rattle.std.proofs.Common.{if◌then◌else◌, length, refl, sym, ap, ap₂, ◌∙◌, subst, ◌⊎◌, inl, inr, true≢false, is_some}
use Rattle.std.proofs.Common.{eqb-true, append-nil, append_assoc, arith}
use Rattle.std.proofs.lemmas.Bool.{and_from}
use Rattle.std.proofs.lemmas.List.{map-append, append_cancel_right}
use Rattle.std.specs.Prelude.{map}
use Rattle.lexical_grammar.specs.Answers.{Answer, gives, limit_at, limited, is_token}
use Rattle.lexical_grammar.specs.Cut.{Item, Cut, Significant, significant_word, is_significant_kind, are_tokens}
use Rattle.lexical_grammar.specs.declared.TokenKind.{TokenKind}
use Rattle.document_grammar.proofs.Booleans.{false-true, and-l, and-r}
use Rattle.document_grammar.specs.Beginnings.{StartsWithin}
use Rattle.document_grammar.specs.Booleans.{◌and◌, ◌or◌}
use Rattle.document_grammar.specs.Builds.{Building, Open, close}
use Rattle.document_grammar.specs.Derivation.{Sort, document, Spells, nest}
use Rattle.document_grammar.specs.Forests as built
use Rattle.document_grammar.specs.Kinds.{DOCUMENT}
use Rattle.document_grammar.specs.Numbered.{tree_of}
use Rattle.document_grammar.specs.Numbers.{number}
use Rattle.document_grammar.specs.Pattern.{member}
use Rattle.document_grammar.specs.Placed.{bare}
use Rattle.document_grammar.specs.Sentence.{token_of, leaf_number, Sentence, Within}
use Rattle.document_grammar.specs.Tree.{Token, Tree, node, Forest, none}
use Rattle.document_grammar.specs.declared.kind.SyntaxKind.TheVariants as kind
use Rattle.grammar_machine.proofs.Depth.{count_in, nest-show, nesting_all}
use Rattle.grammar_machine.proofs.FromMachineTree.{show, shows}
use Rattle.grammar_machine.proofs.MachineTheorems.{Parse}
use Rattle.grammar_machine.proofs.Patterns.{label}
use Rattle.grammar_machine.proofs.Run.{next}
use Rattle.grammar_machine.proofs.SentenceTheorems.{sentence-parse, begins-at}
use Rattle.grammar_machine.proofs.Sound.{any, AllSpelt}
use Rattle.grammar_machine.proofs.Starts.{first-same, read, next_one, after-one}
use Rattle.grammar_machine.proofs.Steps.{closes-move}
use Rattle.grammar_machine.proofs.TableLemmas.{holds-subset, holds-disjoint, head-same, no-cons}
use Rattle.grammar_machine.proofs.generated.Labels.{labels}
use Rattle.grammar_machine.specs.Machine.{holds as within, is_leaf, class, first, opening, second, yields}
use Rattle.grammar_machine.specs.Machine.{close as closes_move}
use Rattle.parser_rules.proofs.NodeChecks.{document_passes}
use Rattle.parser_rules.proofs.lookahead.MachineClasses.{Next}
use Rattle.parser_rules.proofs.lookahead.Split.{Level, NotEntered, Entered, Left, in_row, machine_is_stuck, at_start}
use Rattle.parser_rules.proofs.lookahead.TokenSets.{class_of, over, ready, not-zero}
use Rattle.parser_rules.proofs.reports.NoReport.{NowOrNone, reading-now, now-along, answers_tokens, all_tokens, rest}
use Rattle.parser_rules.proofs.reports.NoReport.{current_tokens, item_tokens, EndsWell, Now, end-or-token}
use Rattle.parser_rules.proofs.reports.NoReport.{given as given_by, Held, all_tokens-append}
use Rattle.parser_rules.proofs.runs.Frame.{Untouched, add_all-above, turned, begun-nesting}
use Rattle.parser_rules.proofs.runs.Fuel.{rules_deep}
use Rattle.parser_rules.proofs.runs.Progress.{ready-there}
use Rattle.parser_rules.proofs.runs.Reading.{reading}
use Rattle.parser_rules.proofs.runs.Steps.{along, turns-along}
use Rattle.parser_rules.proofs.soundness.FirstReport.{Viable, TooMany, RightReport}
use Rattle.parser_rules.proofs.soundness.Moves.{next-classes}
use Rattle.parser_rules.proofs.soundness.Positions.{PositionHolds, ParserInput, run-grows, MachineIsAt, StateFits}
use Rattle.parser_rules.proofs.soundness.Positions.{RunOutcome, RightlyReported, rightly-on}
use Rattle.parser_rules.proofs.soundness.Roots.{input_of, IsRootSymbol, symbol-begins, root-opened, root-starts}
use Rattle.parser_rules.proofs.soundness.Roots.{root-ended, never-right}
use Rattle.parser_rules.proofs.soundness.Simulation.{checked, simulation}
use Rattle.parser_rules.proofs.soundness.TableCheck.{keeps_to_table, level_entered, counts_itself, level_due}
use Rattle.parser_rules.proofs.soundness.TableCheck.{absent_as_end, document_may_end, document_follows}
use Rattle.parser_rules.proofs.soundness.WithoutIgnored.{stack, strip, layers, stack-flush}
use Rattle.parser_rules.specs.Nodes.{Definition, Document}
use Rattle.parser_rules.specs.Open.{IsRoot}
use Rattle.parser_rules.specs.RuleLanguage.{Rule, Call, While, Ready, holds}
use Rattle.parser_rules.specs.Runs.{Runs, Turns}
use Rattle.parser_rules.specs.State.{State, Lexeme, Report, add_all, fresh, begun, finished}

-- ---- what was answered, where all answers are tokens

pub item-words : (found : Option TokenKind) (text : List ℕ)
    → item_tokens found text ≡ map token_of (significant_word found text)
item-words None text = refl
item-words (Some k) text =
    elim (is_significant_kind k) as (λ b. (if b then token_of (record { kind = k; text = text }) ∷ [] else [])
    ≡ map token_of (if b then record { kind = k; text = text } ∷ [] else [])) [ true ↦ refl | false ↦ refl ]

pub record Given (allowed : ℕ) (items : List Item) : Type 0 where
  pub tokens : are_tokens items ≡ true
  pub count : length items ≤ allowed
  pub words : answers_tokens (limited allowed items) ≡ map token_of (Significant items)

pub given : (allowed : ℕ) (items : List Item) → all_tokens (limited allowed items) ≡ true → Given allowed items
unfolding ◌and◌
given zero [] h = record { tokens = refl; count = omega arith; words = refl }
given (suc allowed) [] h = record { tokens = refl; count = omega arith; words = refl }
given zero (item ∷ items) h = absurd (true≢false (sym h))
given (suc allowed) (item ∷ items) h =
    let g = given allowed items (and-r _ _ h) in
    record {
      tokens = and_from (is_some item.kind) (are_tokens items) (and-l _ _ h) g.tokens;
      count = let c = g.count in omega (arith, c);
      words = ap₂ (λ (a b : List Token). a ++ b) (item-words item.kind item.text) g.words
          ∙ sym (map-append token_of (significant_word item.kind item.text) (Significant items));
    }

-- ---- the beginning

pub document-label : (label DOCUMENT ≡ DOCUMENT) × (counts_itself DOCUMENT ≡ 0) × (is_leaf DOCUMENT ≡ false)
    × (count_in DOCUMENT DOCUMENT ≡ 0)
unfolding label labels counts_itself ◌or◌ is_leaf member
document-label = (refl, refl, refl, refl)

-- all the answers, to a parser with nothing reported
abbrev pub document_input : ℕ → List Answer → ParserInput
document_input max_depth xs = input_of document max_depth xs

pub document-root : IsRootSymbol DOCUMENT kind.DOCUMENT
unfolding label labels counts_itself ◌or◌ member
document-root = record { shown = refl; counted = refl; no_type = refl }

-- where the root is open, nothing is built, and all the tokens are left
pub root-agrees : (max_depth n m : ℕ) (xs ys : List Answer) (state : State)
    → Untouched (record (fresh ys max_depth kind.DOCUMENT) { asked = n; budget = m }) state
    → rest state ≡ answers_tokens xs
    → PositionHolds (document_input max_depth xs) DOCUMENT at_start [] state
root-agrees max_depth n m xs ys state untouched e =
    let o = root-opened document max_depth xs (symbol-begins document-root) n m ys state untouched e in
    (o.0, tt)

start-fits : (max_depth : ℕ) (xs : List Answer) → EndsWell xs
    → RightlyReported (document_input max_depth xs) (begun xs max_depth kind.DOCUMENT)
    ⊎ StateFits (document_input max_depth xs) DOCUMENT at_start any any [] (begun xs max_depth kind.DOCUMENT)
start-fits max_depth xs ends_well = elim (root-starts document max_depth xs (symbol-begins document-root) ends_well) [
  | inl o ↦ inl o
  | inr g ↦ inr (record { no_report = g.0.no_report; seen = g.0.seen; position = (g.0.position.0, tt) })
]

-- ---- the end

pub finished-tree : (state : State) (layer : ℕ × Forest) (more : List (ℕ × Forest)) → IsRoot state.tree
    → stack (add_all state.pending state.tree) ≡ layer ∷ more → bare (tree_of (finished state)) ≡ node layer.0 layer.1
finished-tree state layer more root e =
    let building : Building = add_all state.pending state.tree in
    let o : Open = record { before = built.none; kind = root.0 } in
    let a : building.above ≡ o ∷ [] = add_all-above state.pending state.tree ∙ root.2 in
    let same : (number root.0, strip building.here) ≡ layer = head-same (sym (ap (layers building.here) a) ∙ e) in
    ap (λ (above : List Open). bare (tree_of (close building.here above).here)) a
    ∙ ap (λ (l : ℕ × Forest). node l.0 l.1) same

-- there is no token left, and all answers were given
nothing-left : (maybe_lexeme : Option Lexeme) (items : List Answer) → Now maybe_lexeme items
    → within (class_of maybe_lexeme) over ≡ true
    → (current_tokens maybe_lexeme ++ answers_tokens items ≡ []) × (items ≡ [])
nothing-left None items now h = absurd now
nothing-left (Some t) items now h = elim (end-or-token t items now) [
  | inl a ↦ (a.nothing, a.none)
  | inr a ↦ (
      let b : Token = (leaf_number t.kind, t.text) in
      let i : within (class b) over ≡ true = subst (λ (e : Bool). within (cond e 0 (class b)) over ≡ true) a.is_end h in
      false-true (holds-disjoint (class b) over ready refl i) (not-zero b))
]

-- all answers were tokens
all-read : (xs : List Answer) (maybe_lexeme : Option Lexeme) (items : List Answer) → Now maybe_lexeme items
    → Held xs maybe_lexeme items → items ≡ []
    → all_tokens xs ≡ true
unfolding ◌and◌
all-read xs None items now held e = absurd now
all-read xs (Some t) items now held e =
    ap all_tokens (held.split ∙ ap (λ (ys : List Answer). held.front ++ given_by t ∷ ys) e)
    ∙ all_tokens-append held.front (given_by t ∷ []) held.tokens refl

due-none : (level : Level) → level_entered level ≡ 0 → level_due DOCUMENT level ≡ 0
due-none NotEntered e = document-label.1
due-none Entered e = refl
due-none Left e = refl

-- The text's words are spelled by a derivation that nests within the limit, and all answers are tokens.
pub record CleanAs (max_depth : ℕ) (xs : List Answer) (state : State) (tree : Tree) : Type 0 where
  pub spells : Spells (answers_tokens xs) tree document
  pub nesting : nest tree ≤ max_depth
  -- the greatest depth is the nesting
  pub high : state.high ≡ nest tree
  pub tokens : all_tokens xs ≡ true

-- What a run of the rule gives: the derivation is the tree.
abbrev pub Clean : ℕ → List Answer → State → Type 0
Clean max_depth xs state = CleanAs max_depth xs state (bare (tree_of (finished state)))

-- Nothing is reported: what was to be read is a sentence within the limit, with the tree's children.
pub record Silent (max_depth : ℕ) (xs : List Answer) (state : State) : Type 0 where
  pub silent : state.errors ≡ []
  pub children : Forest
  pub clean : CleanAs max_depth xs state (show (node DOCUMENT children))
  pub built : stack (add_all state.pending state.tree) ≡ (label DOCUMENT, shows children) ∷ ((0, none) ∷ [])

pub root-outcome : (max_depth : ℕ) (xs : List Answer) (state : State)
    → RunOutcome (document_input max_depth xs) DOCUMENT [] document_may_end state
    → RightlyReported (document_input max_depth xs) state ⊎ Silent max_depth xs state
unfolding document_may_end
root-outcome max_depth xs state (inl o) = inl o
root-outcome max_depth xs state (inr (machine_is_stuck, x, y, h, g)) = false-true refl h
root-outcome max_depth xs state (inr (in_row q level d, x, y, h, g)) =
    let st = g.position.0 in
    let forest : Forest = st.children in
    let machine_is_at : MachineIsAt (document_input max_depth xs) DOCUMENT q level forest [] state = st.machine in
    let n : Next x y (rest state) = next-classes (document_input max_depth xs) g in
    let left = nothing-left state.current state.items g.no_report.now
    (holds-subset (class_of state.current) x over (and-r _ _ (and-l _ _ h)) g.seen.near) in
    let m : next DOCUMENT q (rest state) ≡ closes_move =
    closes-move DOCUMENT q x (absent_as_end y) (first (rest state)) (second (rest state))
    (and-l _ _ (and-l _ _ h)) n.near n.far in
    let d = root-ended (document_input max_depth xs) machine_is_at m (due-none level (eqb-true _ _ (and-r _ _ h))) in
    let words : yields forest ≡ answers_tokens xs =
    sym (append-nil (yields forest)) ∙ sym (d.split ∙ ap (λ (v : List Token). yields forest ++ v) left.0) in
    inr (record {
      silent = g.no_report.quiet.clean;
      children = forest;
      clean = record {
        spells = subst (λ (v : List Token). Spells v (show (node DOCUMENT forest)) document) words d.spells;
        nesting = d.nesting;
        high = d.high;
        tokens = all-read xs state.current state.items g.no_report.now g.no_report.held left.1;
      };
      built = stack-flush state.pending state.tree g.no_report.quiet.waits ∙ st.built;
    })

-- a run from where the root is open, by the check of its rule
pub run-outcome : (max_depth : ℕ) (xs : List Answer) {rule : Rule} {state after : State} (x : ℕ)
    → keeps_to_table rules_deep DOCUMENT at_start x any rule document_may_end ≡ true → Runs rule state after
    → StateFits (document_input max_depth xs) DOCUMENT at_start x any [] state
    → RightlyReported (document_input max_depth xs) after ⊎ Silent max_depth xs after
run-outcome max_depth xs {rule = rule} {after = after} x h run state_fits =
    root-outcome max_depth xs after
    (simulation (document_input max_depth xs) run rules_deep DOCUMENT at_start x any [] document_may_end
    (checked (document_input max_depth xs) rules_deep DOCUMENT at_start x any rule document_may_end h) state_fits)

-- A run of the document's rule.
pub parsed : (max_depth : ℕ) (xs : List Answer) (state : State) → EndsWell xs → IsRoot state.tree
    → Runs (Call Document) (begun xs max_depth kind.DOCUMENT) state
    → RightlyReported (document_input max_depth xs) state
    ⊎ ((state.errors ≡ []) × Clean max_depth xs state)
unfolding document_follows
parsed max_depth xs state en root run = elim (start-fits max_depth xs en) [
  | inl o ↦ inl (rightly-on (document_input max_depth xs) (begun xs max_depth kind.DOCUMENT) state (run-grows run) o)
  | inr b ↦ elim (run-outcome max_depth xs any document_passes.table run b) [
    | inl o ↦ inl o
    | inr o ↦ inr (
      o.silent,
      subst (CleanAs max_depth xs state)
          (sym (finished-tree state (label DOCUMENT, shows o.children) ((0, none) ∷ []) root o.built))
          o.clean,
    )
  ]
]

pub clean : (max_depth : ℕ) (xs : List Answer) (state : State) → EndsWell xs → IsRoot state.tree → state.errors ≡ []
    → Runs (Call Document) (begun xs max_depth kind.DOCUMENT) state → Clean max_depth xs state
clean max_depth xs state en root e run =
    elim (parsed max_depth xs state en root run) [ inl o ↦ no-cons (sym e ∙ o.reported) | inr o ↦ o.1 ]

-- ---- the first report

pub answers-append : (xs ys : List Answer) → answers_tokens (xs ++ ys) ≡ answers_tokens xs ++ answers_tokens ys
answers-append [] ys = refl
answers-append (limit_at index ∷ xs) ys = answers-append xs ys
answers-append (gives item ∷ xs) ys =
    ap (λ (v : List Token). item_tokens item.kind item.text ++ v) (answers-append xs ys)
    ∙ sym (append_assoc (item_tokens item.kind item.text) (answers_tokens xs) (answers_tokens ys))

pub no-token-words : (answer : Answer) (ys : List Answer) → is_token answer ≡ false
    → answers_tokens (answer ∷ ys) ≡ answers_tokens ys
no-token-words (limit_at index) ys h = refl
no-token-words (gives item) ys h = (elim item.kind as (λ found. is_some found ≡ false
    → item_tokens found item.text ++ answers_tokens ys ≡ answers_tokens ys)
    [ None ↦ λ h. refl | Some k ↦ λ h. absurd (true≢false h) ]) h

-- the tokens before
pub words-before : (xs front ys : List Answer) (tokens : List Token) → xs ≡ front ++ ys
    → answers_tokens xs ≡ tokens ++ answers_tokens ys
    → tokens ≡ answers_tokens front
words-before xs front ys tokens e h = append_cancel_right tokens (answers_tokens front) (answers_tokens ys)
    (sym h ∙ (ap answers_tokens e ∙ answers-append front ys))

-- No late fault: the tokens before begin a sentence, which goes on with listed tokens.
abbrev pub Begins_tokens : Sort → List Token → Type 0
Begins_tokens sort tokens = (tree : Tree) × (more : List Token) × Spells (tokens ++ more) tree sort × AllSpelt more

pub viable-begins : (sort : Sort) (max_depth : ℕ) (xs front ys : List Answer) → xs ≡ front ++ ys
    → Viable sort xs max_depth (answers_tokens xs) (answers_tokens ys) → Begins_tokens sort (answers_tokens front)
viable-begins sort max_depth xs front ys e viable =
    let h = begins-at sort (answers_tokens xs) viable.0 (answers_tokens ys) viable.1 in
    subst (λ (b : List Token). Begins_tokens sort b) (words-before xs front ys h.0 e h.1) h.2

-- No early limit: no sentence within the limit goes on with the next token.
pub not-within-one : (sort : Sort) (max_depth : ℕ) (xs : List Answer) (tokens rest : List Token)
    (too_many : TooMany sort xs max_depth tokens rest)
    → StartsWithin sort max_depth (read too_many.before ++ next_one rest) → ⊥
not-within-one sort max_depth xs tokens rest too_many starts_within =
    let a = after-one too_many.before rest starts_within.0 starts_within.2 starts_within.4 in
    let p = sentence-parse sort (too_many.before ++ a.0) starts_within.1
    (subst (λ (z : List Token). Spells z starts_within.1 sort) a.1 starts_within.3) in
    let start : first (too_many.before ++ a.0) ≡ first tokens =
    sym (first-same too_many.before rest a.0 a.2) ∙ sym (ap first too_many.split) in
    let deeper = too_many.deeper p.0 a.0
    (subst (λ (c : ℕ). Parse (opening sort c) p.0 (too_many.before ++ a.0)) start p.1) a.2 in
    let nests : nest starts_within.1 ≡ nesting_all p.0 = ap nest (sym p.2) ∙ nest-show p.0 p.1.0 in
    omega (arith, deeper, nests, starts_within.5)

-- ---- going on after reports

abbrev pub loops : Rule
loops = While Ready (Call Definition)

-- A turn of the document's loop: the current token, which is not the end, no level, and the grammar's reports are
-- taken.
pub record Turn (st : State) : Type 0 where
  pub token : Lexeme
  pub current : st.current ≡ Some token
  pub now : Now (Some token) st.items
  pub is_ready : true ≡ holds Ready st
  pub accepts : st.accepts ≡ true
  pub no_level : st.depth ≡ 0

-- the answers from the current token on
abbrev pub from_now : (st : State) → Turn st → List Answer
from_now st turn = given_by turn.token ∷ st.items

abbrev pub now_words : (st : State) → Turn st → List Token
now_words st turn = answers_tokens (from_now st turn)

-- a turn of the document's loop over a text, while the grammar's reports are taken
pub turn-of : (max_depth : ℕ) (xs : List Answer) (first_rule : Rule) (state st : State) → EndsWell xs
    → Runs first_rule (begun xs max_depth kind.DOCUMENT) state
    → Turns Ready (Call Definition) state st → true ≡ holds Ready st → st.accepts ≡ true → Turn st
turn-of max_depth xs first_rule state st en run turns rd ac =
    let i = ready-there st rd in
    record {
      token = i.token;
      current = i.is;
      now = subst (λ (o : Option Lexeme). NowOrNone o st.items) i.is stood;
      is_ready = rd;
      accepts = ac;
      no_level = depth;
    }
  where
    stood : NowOrNone st.current st.items
    stood = turns-along now-along turns
        (along now-along run (reading-now (reading xs (fresh xs max_depth kind.DOCUMENT)) en))

    depth : st.depth ≡ 0
    depth = (turned turns).depth ∙ (begun-nesting xs max_depth kind.DOCUMENT run).0

-- ---- acceptance

-- over a sentence within the limits no report is right
pub none-right : (max_depth : ℕ) (xs : List Answer) (report : Report) (m : ℕ) (tree : Tree)
    → Spells (answers_tokens xs) tree document → nest tree ≤ max_depth
    → all_tokens xs ≡ true → RightReport document xs max_depth (answers_tokens xs) report m → ⊥
none-right = never-right document

-- Acceptance: a sentence within the limits gets no report.
pub accepted : (max_depth : ℕ) (xs : List Answer) (state : State) (tree : Tree) → EndsWell xs → IsRoot state.tree
    → Runs (Call Document) (begun xs max_depth kind.DOCUMENT) state → Spells (answers_tokens xs) tree document
    → nest tree ≤ max_depth → all_tokens xs ≡ true
    → state.errors ≡ []
accepted max_depth xs state tree en root run spells n a = elim (parsed max_depth xs state en root run) [
  | inl o ↦ absurd
      (none-right max_depth xs o.report o.taken tree spells n a o.right)
  | inr o ↦ o.0
]

-- The text is a sentence within both limits.
pub record IsClean (source : List ℕ) (tree : Tree) (max_depth max_items : ℕ) : Type 0 where
  pub sentence : Sentence source tree document
  pub within : Within source tree max_depth max_items

pub sound : (max_depth max_items : ℕ) (source : List ℕ) (items : List Item) (state : State)
    → EndsWell (limited max_items items)
    → (are_tokens items ≡ true → Cut source items) → IsRoot state.tree → state.errors ≡ []
    → Runs (Call Document) (begun (limited max_items items) max_depth kind.DOCUMENT) state
    → IsClean source (bare (tree_of (finished state))) max_depth max_items
sound max_depth max_items source items state en cut root e run =
    let c = clean max_depth (limited max_items items) state en root e run in
    let g = given max_items items c.tokens in
    record {
      sentence = record {
        items = items;
        cut = cut g.tokens;
        tokens = g.tokens;
        derivation = c.spells.0;
        yield = c.spells.1 ∙ g.words;
      };
      within = record { nesting = c.nesting; items = items; cut = cut g.tokens; count = g.count };
    }
