-- A run over a text: a sentence within both limits gets no report, and where the first report is, the text before
-- begins a sentence.
use Rattle.std.proofs.Common.{◌≡◌, ℕ, zero, suc, ◌≤◌, ◌+◌, length, Bool, true, false, List, [], ◌∷◌, ◌++◌, Some, None}
use Rattle.std.proofs.Common.{refl, sym, ap, ap₂, ◌∙◌, subst, inl, inr, true≢false, arith, is_some, ◌-◌, ◌⊎◌}
use Rattle.std.proofs.lemmas.Bool.{and_parts, and_from}
use Rattle.std.proofs.lemmas.List.{map-append, length-append}
use Rattle.std.specs.Prelude.{map, take}
use Rattle.std.specs.Str.{IsUtf8}
use Rattle.lexical_grammar.proofs.Limited.{limited-end}
use Rattle.lexical_grammar.specs.Answers.{Answer, gives, limited, is_token, limit_at, limit_index, is_end, answers_text}
use Rattle.lexical_grammar.specs.Cut.{Item, Cut, texts, Significant, significant_word, are_tokens}
use Rattle.document_grammar.proofs.Booleans.{and-i, and-l, and-r, either, not-some}
use Rattle.document_grammar.proofs.Texts.{one-cut, sentence-starts, sentence-starts-within}
use Rattle.document_grammar.specs.Beginnings.{Starts, StartsWithin}
use Rattle.document_grammar.specs.Derivation.{Sort, document, Spells, Terminal, word, terminals}
use Rattle.document_grammar.specs.Forests as built
use Rattle.document_grammar.specs.Numbered.{tree_of}
use Rattle.document_grammar.specs.Placed.{bare}
use Rattle.document_grammar.specs.Sentence.{token_of, Sentence, Within, Begins, StartSentence, StartSentenceWithin}
use Rattle.document_grammar.specs.Sentence.{leaf_number, tokens_of}
use Rattle.document_grammar.specs.Tree.{Token, Tree}
use Rattle.document_grammar.specs.declared.kind.SyntaxKind.TheVariants as kind
use Rattle.grammar_machine.proofs.Beginnings.{begins-text}
use Rattle.grammar_machine.proofs.SentenceTheorems.{not-starts, read-map, two-terminals, one-sentence}
use Rattle.grammar_machine.proofs.Starts.{read, next_one, next_two}
use Rattle.grammar_machine.proofs.TableLemmas.{head-same, tail-same, no-cons}
use Rattle.parser_rules.proofs.reports.AlongItems.{item_of}
use Rattle.parser_rules.proofs.reports.Endings.{ends-well}
use Rattle.parser_rules.proofs.reports.NoReport.{Passed, all_tokens, answers_tokens, item_tokens, report_of}
use Rattle.parser_rules.proofs.reports.NoReport.{given as given_by, Now, choose, EndsWell, kind_tokens, significant}
use Rattle.parser_rules.proofs.reports.NoReport.{ignored-tokens, ignored-end}
use Rattle.parser_rules.proofs.runs.Frame.{add_all-above, added-all}
use Rattle.parser_rules.proofs.runs.Reading.{Reading, stops, cuts, bad_text as bad_item, waits, shows, looks}
use Rattle.parser_rules.proofs.soundness.FirstReport.{RightReport, Viable, TokensBefore, stuck_here, deep_here}
use Rattle.parser_rules.proofs.soundness.FirstReport.{no_token}
use Rattle.parser_rules.proofs.soundness.Positions.{RightlyReported}
use Rattle.parser_rules.proofs.soundness.Roots.{input_of}
use Rattle.parser_rules.proofs.soundness.Settled.{EndedFit, ended-root, settled-added}
use Rattle.parser_rules.proofs.soundness.Soundness.{given, parsed, accepted, sound, item-words, answers-append}
use Rattle.parser_rules.proofs.soundness.Soundness.{no-token-words, words-before, viable-begins, not-within-one}
use Rattle.parser_rules.specs.Nodes.{Document}
use Rattle.parser_rules.specs.Open.{IsRoot}
use Rattle.parser_rules.specs.RuleLanguage.{Call}
use Rattle.parser_rules.specs.Runs.{Runs}
use Rattle.parser_rules.specs.State.{State, Report, begun, Lexeme, fault_report, recursion_limit_report}
use Rattle.parser_rules.specs.State.{token_limit_report, bad_report, finished, second, lexeme, add_all, ignored}
use Rattle.parser_rules.specs.declared.message.Message.{Message}

-- ---- all items are given

pub all-given : (max_items : ℕ) (items : List Item) → length items ≤ max_items → are_tokens items ≡ true
    → all_tokens (limited max_items items) ≡ true
all-given zero [] c h = refl
all-given (suc k) [] c h = refl
all-given zero (item ∷ items) c h = absurd (omega arith)
all-given (suc k) (item ∷ items) c h = let p = and_parts (is_some item.kind) (are_tokens items) h in
    and-i p.0 (all-given k items (omega arith) p.1)

-- over a sentence within both limits, its tokens are answered, and all answers are tokens
pub sentence-answers : (sort : Sort) (max_depth max_items : ℕ) (source : List ℕ) (items : List Item) (tree : Tree)
    → Cut source items
    → Sentence source tree sort → Within source tree max_depth max_items
    → (all_tokens (limited max_items items) ≡ true) × Spells (answers_tokens (limited max_items items)) tree sort
sentence-answers sort max_depth max_items source items tree cut sentence within =
    let same : sentence.items ≡ items = one-cut source sentence.items items sentence.cut cut sentence.tokens in
    let tokens : are_tokens items ≡ true = subst (λ (l : List Item). are_tokens l ≡ true) same sentence.tokens in
    let other : items ≡ within.items = one-cut source items within.items cut within.cut tokens in
    let count : length items ≤ max_items = subst (λ (l : List Item). length l ≤ max_items) (sym other) within.count in
    let all : all_tokens (limited max_items items) ≡ true = all-given max_items items count tokens in (
      all,
      (
        sentence.derivation,
        sentence.yield
            ∙ (ap (λ (l : List Item). map token_of (Significant l)) same ∙ sym (given max_items items all).words),
      ),
    )

-- ---- the offset of an answer in the text

-- the token is the end, or a significant token or the end follows it within the token limit
abbrev pub Answered : ℕ → List Item → List Item → Lexeme → Type 0
Answered max_items before more this_lexeme =
    (is_end this_lexeme.kind ≡ true) ⊎ (is_some (second (limited (max_items - suc (length before)) more)) ≡ true)

pub record Before (max_items : ℕ) (items : List Item) (front : List Answer) (answer : Answer)
    (ys : List Answer) : Type 0 where
  pub before : List Item
  pub item : Item
  pub more : List Item
  pub split : items ≡ before ++ item ∷ more
  pub tokens : are_tokens before ≡ true
  pub words : answers_tokens front ≡ tokens_of before
  -- what was answered from there on, up to the token limit
  pub answers : limited (max_items - length before) (item ∷ more) ≡ answer ∷ ys
  pub text : answers_text front ≡ texts before

-- an item that was answered, and what follows it; and the limit
pub given-is : (n : ℕ) (item this_item : Item) (more : List Item) (ys : List Answer)
    → limited n (item ∷ more) ≡ gives this_item ∷ ys
    → (this_item ≡ item) × (limited (n - 1) more ≡ ys)
given-is zero item this_item more ys e = let h : limit_at (limit_index item) ≡ gives this_item = head-same e in
    absurd (cc)
given-is (suc n) item this_item more ys e = let h : gives item ≡ gives this_item = head-same e in
    let m : suc n - 1 ≡ n = omega arith in
    (cc, rw m (tail-same e))

pub limit-is : (n m : ℕ) (item : Item) (more : List Item) (ys : List Answer) → limited n (item ∷ more) ≡ limit_at m ∷ ys
    → m ≡ limit_index item
limit-is zero m item more ys e = let h : limit_at (limit_index item) ≡ limit_at m = head-same e in cc
limit-is (suc n) m item more ys e = let h : gives item ≡ limit_at m = head-same e in absurd (cc)

none-there : {A : Type 0} (answer : Answer) (front ys : List Answer) → [] ≡ front ++ answer ∷ ys → A
none-there answer [] ys e = no-cons e
none-there answer (other_answer ∷ front) ys e = no-cons e

none-limited : (max_items : ℕ) (items : List Item) → limited max_items items ≡ [] → items ≡ []
none-limited max_items [] e = refl
none-limited zero (item ∷ items) e = absurd (cc)
none-limited (suc k) (item ∷ items) e = absurd (cc)

one-terminal : (tokens : List Token) → take 1 (terminals tokens) ≡ next_one tokens
one-terminal [] = refl
one-terminal (token ∷ tokens) = refl

pub words-cons : (item : Item) (more : List Item)
    → tokens_of (item ∷ more) ≡ item_tokens item.kind item.text ++ tokens_of more
words-cons item more = map-append token_of (significant_word item.kind item.text) (Significant more)
    ∙ ap (λ (v : List Token). v ++ tokens_of more) (sym (item-words item.kind item.text))

-- the next tokens are the text's, where those after the current one are
next-terminals : (n max_items : ℕ) (this_lexeme : Lexeme) (more : List Item)
    → Now (Some this_lexeme) (limited max_items more)
    → (is_end this_lexeme.kind ≡ false
    → take n (terminals (tokens_of more)) ≡ take n (terminals (answers_tokens (limited max_items more))))
    → take (suc n) (terminals (kind_tokens this_lexeme.kind this_lexeme.text ++ tokens_of more))
    ≡ take (suc n) (terminals
    (kind_tokens this_lexeme.kind this_lexeme.text ++ answers_tokens (limited max_items more)))
next-terminals n max_items this_lexeme more now h = elim (either (is_end this_lexeme.kind)) [
  | inl e ↦ (
      let z : limited max_items more ≡ [] =
      subst (λ (b : Bool). choose b (limited max_items more ≡ []) (EndsWell (limited max_items more))) e now.1 in
      ap (λ (v : List Token). take (suc n) (terminals (kind_tokens this_lexeme.kind this_lexeme.text ++ v)))
      (ap tokens_of (none-limited max_items more z) ∙ sym (ap answers_tokens z)))
  | inr e ↦ subst (λ (v : List Token). take (suc n) (terminals (v ++ tokens_of more))
      ≡ take (suc n) (terminals (v ++ answers_tokens (limited max_items more))))
      (sym (significant this_lexeme.kind this_lexeme.text e now.0))
      (ap (λ (l : List Terminal). word (leaf_number this_lexeme.kind, this_lexeme.text) ∷ l)
      (h e))
]

abbrev One : List Item → List Answer → List Token → Type 0
One more xs tokens = take 1 (terminals (tokens ++ tokens_of more)) ≡ take 1 (terminals (tokens ++ answers_tokens xs))

-- the first token after it is the text's, where one was answered
behind-one : (max_items : ℕ) (more : List Item) {state after : State} → Reading (limited max_items more) state after
    → EndsWell (limited max_items more)
    → is_some after.current ≡ true → One more (limited max_items more) []
behind-one zero [] reading ends_well h = absurd ends_well
behind-one (suc k) [] reading ends_well h = absurd ends_well
behind-one zero (item ∷ more) (cuts stops) ends_well h = absurd (true≢false (sym h))
behind-one (suc k) (item ∷ more) (bad_item i reading) ends_well h =
    ap (λ (v : List Token). take 1 (terminals v)) (words-cons item more)
    ∙ rw i (behind-one k more reading (rw i at ends_well) h)
behind-one (suc k) (item ∷ more) (waits {this_token_kind = this_token_kind} {own = own} i n reading) ends_well h =
    ap (λ (v : List Token). take 1 (terminals v)) (words-cons item more)
    ∙ rw (i, ignored-tokens this_token_kind own item.text n)
    (behind-one k more reading (rw (i, ignored-end this_token_kind own n) at ends_well) h)
behind-one (suc k) (item ∷ more) (shows {this_token_kind = this_token_kind} i n) e h =
    ap (λ (v : List Token). take 1 (terminals v)) (words-cons item more) ∙ rw i
    (next-terminals 0 k (lexeme this_token_kind item) more (n, rw i at e) (λ e. refl))

pub before-at : (max_items : ℕ) (items : List Item) (front : List Answer) (answer : Answer) (ys : List Answer)
    → limited max_items items ≡ front ++ answer ∷ ys
    → all_tokens front ≡ true → Before max_items items front answer ys
before-at max_items [] front answer ys e h = none-there answer front ys (sym (limited-end max_items) ∙ e)
before-at max_items (item ∷ items) [] answer ys e h = record {
  before = [];
  item = item;
  more = items;
  split = refl;
  tokens = refl;
  words = refl;
  answers = (let n : max_items - 0 ≡ max_items = omega arith in rw n e);
  text = refl;
}
before-at zero (item ∷ items) (other_answer ∷ front) answer ys e h = none-there answer front ys (tail-same e)
before-at (suc k) (item ∷ items) (other_answer ∷ front) answer ys e h =
    let first : gives item ≡ other_answer = head-same e in
    let r = before-at k items front answer ys (tail-same e) (and-r _ _ h) in
    record {
      before = item ∷ r.before;
      item = r.item;
      more = r.more;
      split = ap (λ (l : List Item). item ∷ l) r.split;
      tokens = and_from _ _ (subst (λ (a : Answer). is_token a ≡ true) (sym first) (and-l _ _ h)) r.tokens;
      words = ap (λ (a : Answer). answers_tokens (a ∷ front)) (sym first)
          ∙ (ap₂ (λ (v u : List Token). v ++ u) (item-words item.kind item.text) r.words
          ∙ sym (map-append token_of (significant_word item.kind item.text) (Significant r.before)));
      answers = (let n : suc k - suc (length r.before) ≡ k - length r.before = omega arith in rw n r.answers);
      text = ap (λ (a : Answer). answers_text (a ∷ front)) (sym first) ∙ ap (λ (v : List ℕ). item.text ++ v) r.text;
    }

module _ {max_items : ℕ} {items : List Item} {front ys : List Answer} (this_lexeme : Lexeme)
    (before : Before max_items items front (given_by this_lexeme) ys) where
  -- the item is the token's
  item-there : item_of this_lexeme ≡ before.item
  item-there = (given-is _ before.item (item_of this_lexeme) before.more ys before.answers).0

  -- what follows it was answered
  answers-after : limited (max_items - suc (length before.before)) before.more ≡ ys
  answers-after =
      let n : max_items - suc (length before.before) ≡ (max_items - length before.before) - 1 = omega arith in
      rw n (given-is _ before.item (item_of this_lexeme) before.more ys before.answers).1

  module _ (now : Now (Some this_lexeme) ys) where
    -- the tokens there are the text's
    terminals-at : (n : ℕ) → (is_end this_lexeme.kind ≡ false → take n (terminals (tokens_of before.more))
        ≡ take n (terminals (answers_tokens (limited (max_items - suc (length before.before)) before.more))))
        → take (suc n) (terminals (tokens_of (before.item ∷ before.more)))
        ≡ take (suc n) (terminals (answers_tokens (given_by this_lexeme ∷ ys)))
    terminals-at n h =
        ap (λ (v : List Token). take (suc n) (terminals v)) (words-cons before.item before.more)
        ∙ (ap (λ (i : Item). take (suc n) (terminals (item_tokens i.kind i.text ++ tokens_of before.more)))
        (sym item-there)
        ∙ (next-terminals n (max_items - suc (length before.before)) this_lexeme before.more
        (subst (Now (Some this_lexeme)) (sym answers-after) now) h
        ∙ ap (λ (l : List Answer). take (suc n)
        (terminals (kind_tokens this_lexeme.kind this_lexeme.text ++ answers_tokens l))) answers-after))

    one-at : take 1 (terminals (tokens_of (before.item ∷ before.more)))
        ≡ next_one (answers_tokens (given_by this_lexeme ∷ ys))
    one-at = terminals-at 0 (λ e. refl) ∙ one-terminal (answers_tokens (given_by this_lexeme ∷ ys))

    two-at : Answered max_items before.before before.more this_lexeme
        → take 2 (terminals (tokens_of (before.item ∷ before.more)))
        ≡ next_two (answers_tokens (given_by this_lexeme ∷ ys))
    two-at answered = terminals-at 1 behind ∙ two-terminals (answers_tokens (given_by this_lexeme ∷ ys))
      where
        behind : is_end this_lexeme.kind ≡ false
            → One before.more (limited (max_items - suc (length before.before)) before.more) []
        behind e = elim answered [
          | inl i ↦ absurd (true≢false (sym i ∙ e))
          | inr i ↦ (let l = looks (limited (max_items - suc (length before.before)) before.more) in
              behind-one (max_items - suc (length before.before)) before.more l.2
              (subst EndsWell (sym answers-after) (rw e at now.1)) (rw l.3 i))
        ]

-- ---- the headline

-- The first report of a text, at an item: no sentence starts with the tokens before, the item's, or the end, and the
-- next; each that starts with them and the item's nests deeper than the limit; or the item is bad text, or the first
-- that is too many. Where two tokens count, the second was answered.
pub data Reason (sort : Sort) (items : List Item) (max_depth max_items : ℕ) (before : List Item) (item : Item)
    (more : List Item) : Report → Type 0 where
  fault : (said : Message) (this_lexeme : Lexeme) → item_of this_lexeme ≡ item → ignored this_lexeme.kind ≡ None
      → (Answered max_items before more this_lexeme
      → StartSentence sort (map word (tokens_of before) ++ take 2 (terminals (tokens_of (item ∷ more)))) → ⊥)
      → Reason sort items max_depth max_items before item more (fault_report said this_lexeme)
  too_deep : (this_lexeme : Lexeme) → item_of this_lexeme ≡ item → (StartSentenceWithin sort max_depth
      (map word (tokens_of before) ++ take 1 (terminals (tokens_of (item ∷ more)))) → ⊥)
      → Reason sort items max_depth max_items before item more (recursion_limit_report this_lexeme)
  bad_text : item.kind ≡ None → Reason sort items max_depth max_items before item more (bad_report item.text item.index)
  too_many : Reason sort items max_depth max_items before item more (token_limit_report (limit_index item))

-- The first report is right: the text before begins a sentence, and there is a reason at the item.
pub record IsRight (sort : Sort) (source : List ℕ) (items : List Item) (max_depth max_items : ℕ)
    (report : Report) : Type 0 where
  pub before : List Item
  pub item : Item
  pub more : List Item
  pub split : items ≡ before ++ item ∷ more
  pub tokens : are_tokens before ≡ true
  pub begins : Begins sort (texts before)
  pub reason : Reason sort items max_depth max_items before item more report

-- It is right, and the nodes of a tree that end before its last token fit.
abbrev pub RightFirst : Sort → List ℕ → List Item → ℕ → ℕ → built.Forest → Report → Type 0
RightFirst sort source items max_depth max_items forest report =
    (is_right : IsRight sort source items max_depth max_items report)
    × EndedFit (length (tokens_of is_right.before)) 0 forest

from-words : (front before : List Token) (these_terminals more_terminals : List Terminal) → front ≡ before
    → these_terminals ≡ more_terminals
    → map word before ++ these_terminals ≡ read front ++ more_terminals
from-words front before these_terminals more_terminals e f =
    ap₂ (λ (these_terminals more_terminals : List Terminal). these_terminals ++ more_terminals)
    (read-map before ∙ ap read (sym e)) f

module _ (max_depth max_items : ℕ) (source : List ℕ) (items : List Item) (state : State) (cut : Cut source items)
    (root : IsRoot state.tree)
    (run : Runs (Call Document) (begun (limited max_items items) max_depth kind.DOCUMENT) state) where
  -- Acceptance.
  pub accepts-text : (tree : Tree) → Sentence source tree document
      → Within source tree max_depth max_items → state.errors ≡ []
  accepts-text tree sentence within =
      let a = sentence-answers document max_depth max_items source items tree cut sentence within in
      accepted max_depth (limited max_items items) state tree (ends-well max_items 0 items cut.each) root run
      a.1 within.nesting a.0

  -- The tree that is built then is the derivation.
  pub accepts-tree : (tree : Tree) → Sentence source tree document → Within source tree max_depth max_items
      → bare (tree_of (finished state)) ≡ tree
  accepts-tree tree sentence within =
      let c = sound max_depth max_items source items state (ends-well max_items 0 items cut.each) (λ tokens. cut) root
      (accepts-text tree sentence within) run in
      one-sentence source (bare (tree_of (finished state))) tree document c.sentence sentence

-- ---- the first report

module _ (sort : Sort) (max_depth max_items : ℕ) (source : List ℕ) (items : List Item) (cut : Cut source items) where
  xs : List Answer
  xs = limited max_items items

  -- the first report is right, and how many tokens are before
  abbrev Right_before : Report → ℕ → Type 0
  Right_before report m =
      (is_right : IsRight sort source items max_depth max_items report) × (m ≡ length (tokens_of is_right.before))

  -- what holds at the offset of an answer
  at-offset : IsUtf8 source
      → {answer : Answer} {ys : List Answer} (report : Report) (m : ℕ) (passed : Passed xs (answer ∷ ys))
      → Viable sort xs max_depth (answers_tokens xs) (answers_tokens (answer ∷ ys))
      → TokensBefore sort xs max_depth (answers_tokens xs) m (answers_tokens (answer ∷ ys))
      → ((b : Before max_items items passed.front answer ys)
      → Reason sort items max_depth max_items b.before b.item b.more report) → Right_before report m
  unfolding xs
  at-offset u {answer = answer} {ys = ys} report m passed v tokens_before reason =
      let b = before-at max_items items passed.front answer ys passed.split passed.tokens in
      let d : Cut source (b.before ++ b.item ∷ b.more) = subst (λ (l : List Item). Cut source l) b.split cut in
      let begins = viable-begins sort max_depth xs passed.front (answer ∷ ys) passed.split v in
      let spells : Spells (tokens_of b.before ++ begins.1) begins.0 sort =
      subst (λ (v : List Token). Spells (v ++ begins.1) begins.0 sort) b.words begins.2 in
      let l : length (answers_tokens xs)
      ≡ length (answers_tokens passed.front) + length (answers_tokens (answer ∷ ys)) = ap length
      (ap answers_tokens passed.split ∙ answers-append passed.front (answer ∷ ys))
      ∙ length-append (answers_tokens passed.front) (answers_tokens (answer ∷ ys)) in
      let w = ap length b.words in (
        record {
          before = b.before;
          item = b.item;
          more = b.more;
          split = b.split;
          tokens = b.tokens;
          begins = begins-text sort source b.before b.item b.more begins.0 begins.1 u d b.tokens spells begins.3;
          reason = reason b;
        },
        omega (arith, l, tokens_before, w),
      )

  other-reason : (front : List Answer) (answer : Answer) (ys : List Answer) → is_token answer ≡ false
      → (before : Before max_items items front answer ys)
      → Reason sort items max_depth max_items before.before before.item before.more (report_of answer)
  other-reason front (limit_at n) ys h before =
      subst (λ (m : ℕ). Reason sort items max_depth max_items before.before before.item before.more
      (token_limit_report m)) (sym (limit-is _ n before.item before.more ys before.answers)) too_many
  other-reason front (gives item) ys h before =
      let same : item ≡ before.item = (given-is _ before.item item before.more ys before.answers).0 in
      subst (λ (i : Item). Reason sort items max_depth max_items before.before before.item before.more
      (bad_report i.text i.index)) (sym same)
      (bad_text (subst (λ (i : Item). i.kind ≡ None) same (not-some item.kind h)))

  right-before : IsUtf8 source → (report : Report) (m : ℕ) → RightReport sort xs max_depth (answers_tokens xs) report m
      → Right_before report m
  unfolding xs
  right-before u report m (stuck_here said {lexeme = this_lexeme} {items = ys} now held here tokens_before) =
      at-offset u (fault_report said this_lexeme) m held here.1 tokens_before
      (λ q. fault said this_lexeme (item-there this_lexeme q) now.0 (λ a z. not-starts sort (answers_tokens xs)
      (answers_tokens (given_by this_lexeme ∷ ys)) here.0
      (subst (λ (l : List Terminal). Starts sort l) (from-words here.0.before (tokens_of q.before) _ _
      (words-before xs held.front (given_by this_lexeme ∷ ys) here.0.before held.split here.0.split ∙ q.words)
      (two-at this_lexeme q now a))
      (sentence-starts sort _ z))))
  right-before u report m (deep_here {lexeme = this_lexeme} {items = ys} now held here tokens_before) =
      at-offset u (recursion_limit_report this_lexeme) m held here.comes tokens_before
      (λ q. too_deep this_lexeme (item-there this_lexeme q) (λ z. not-within-one sort max_depth xs (answers_tokens xs)
      (answers_tokens (given_by this_lexeme ∷ ys)) here
      (subst (λ (l : List Terminal). StartsWithin sort max_depth l) (from-words here.before (tokens_of q.before) _ _
      (words-before xs held.front (given_by this_lexeme ∷ ys) here.before held.split here.split ∙ q.words)
      (one-at this_lexeme q now))
      (sentence-starts-within sort max_depth _ z))))
  right-before u report m (no_token {answer = answer} {items = ys} passed n viable tokens_before) =
      let same = no-token-words answer ys n in
      at-offset u (report_of answer) m passed (rw same viable) (rw same tokens_before)
      (other-reason passed.front answer ys n)

  -- the first report is right, and the nodes that end before its last token fit, whatever waits at the end
  pub right-report : IsUtf8 source → (state : State) → IsRoot state.tree
      → RightlyReported (input_of sort max_depth (limited max_items items)) state
      → (report : Report) (more : List Report) → state.errors ≡ report ∷ more
      → RightFirst sort source items max_depth max_items (finished state) report
  unfolding xs
  right-report u state root rightly_reported report more h =
      let i = right-before u report rightly_reported.taken
      (subst (λ (z : Report). RightReport sort (limited max_items items) max_depth
      (answers_tokens (limited max_items items)) z rightly_reported.taken)
      (head-same (sym rightly_reported.reported ∙ h)) rightly_reported.right) in (
        i.0,
        subst (λ (n : ℕ). EndedFit n 0 (finished state)) i.1
            (ended-root rightly_reported.taken (add_all state.pending state.tree)
            (record { before = built.none; kind = root.0 })
            (add_all-above state.pending state.tree ∙ root.2) (settled-added rightly_reported.taken
            (added-all state.pending state.tree) rightly_reported.settled)),
      )

-- The same of a whole document.
pub first-report-right : (max_depth max_items : ℕ) (source : List ℕ) (items : List Item) (state : State)
    (cut : Cut source items) → IsRoot state.tree
    → Runs (Call Document) (begun (limited max_items items) max_depth kind.DOCUMENT) state
    → IsUtf8 source → (report : Report) (more : List Report) → state.errors ≡ report ∷ more
    → RightFirst document source items max_depth max_items (finished state) report
first-report-right max_depth max_items source items state cut root run u report more h =
    elim (parsed max_depth (limited max_items items) state (ends-well max_items 0 items cut.each) root run) [
      | inl o ↦ right-report document max_depth max_items source items cut u state root o report more h
      | inr o ↦ no-cons (sym o.0 ∙ h)
    ]
