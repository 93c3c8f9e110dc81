-- A state without a new report: what is left to read, and that reading on keeps it so or reports.
use Rattle.std.proofs.Common.{◌≡◌, ℕ, Bool, true, false, not, if◌then◌else◌, List, [], ◌∷◌, ◌++◌, Option, Some, None}
use Rattle.std.proofs.Common.{refl, sym, ap, ap₂, ◌∙◌, subst, ◌⊎◌, inl, inr, append_assoc}
use Rattle.std.specs.Prelude.{⊤}
use Rattle.lexical_grammar.specs.Answers.{Answer, gives, limit_at, is_token, is_end}
use Rattle.lexical_grammar.specs.Cut.{Item, is_significant_kind}
use Rattle.lexical_grammar.specs.declared.TokenKind.{TokenKind}
use Rattle.lexical_grammar.specs.declared.TokenKind.TheVariants as token
use Rattle.document_grammar.proofs.Booleans.{either, false-true, and-i}
use Rattle.document_grammar.specs.Booleans.{◌and◌}
use Rattle.document_grammar.specs.Builds.{add_leaf}
use Rattle.document_grammar.specs.Sentence.{token_of, leaf_number}
use Rattle.document_grammar.specs.Tree.{Token}
use Rattle.document_grammar.specs.declared.kind.SyntaxKind.{SyntaxKind}
use Rattle.parser_rules.proofs.runs.Frame.{untouched}
use Rattle.parser_rules.proofs.runs.Reading.{Reading, stops, cuts, bad_text, waits, shows, reading, reading-none}
use Rattle.parser_rules.proofs.runs.Reading.{item-is, kinds-more, ignored-kinds, ignored-leaf}
use Rattle.parser_rules.proofs.runs.Steps.{Holds_along, Keeps_reading, along-reading}
use Rattle.parser_rules.proofs.runs.TreesWithSources.{Reports, reports-then, read-reports}
use Rattle.parser_rules.proofs.soundness.Settled.{Settled}
use Rattle.parser_rules.proofs.soundness.WithoutIgnored.{all_ignored}
use Rattle.parser_rules.specs.State.{State, Text, Lexeme, Report, bad_report, token_limit_report, ignored, wait, bad}
use Rattle.parser_rules.specs.State.{met}

-- the significant tokens of a kind and a text, of an answer, of the current token: one or none
abbrev pub kind_tokens : TokenKind → Text → List Token
kind_tokens token_kind text =
    if is_significant_kind token_kind then token_of (record { kind = token_kind; text = text }) ∷ [] else []

abbrev pub item_tokens : Option TokenKind → Text → List Token
item_tokens None text = []
item_tokens (Some k) text = kind_tokens k text

abbrev pub answers_tokens : List Answer → List Token
answers_tokens [] = []
answers_tokens (limit_at index ∷ rest) = answers_tokens rest
answers_tokens (gives item ∷ rest) = item_tokens item.kind item.text ++ answers_tokens rest

abbrev pub current_tokens : Option Lexeme → List Token
current_tokens None = []
current_tokens (Some t) = kind_tokens t.kind t.text

-- the significant tokens that are left
abbrev pub rest : State → List Token
rest state = current_tokens state.current ++ answers_tokens state.items

abbrev pub choose : Bool → Type 0 → Type 0 → Type 0
choose true A B = A
choose false A B = B

abbrev pub ends : Option TokenKind → Bool
ends None = false
ends (Some k) = is_end k

-- the answers end: nothing follows the end
abbrev pub EndsWell : List Answer → Type 0
EndsWell [] = ⊥
EndsWell (limit_at index ∷ rest) = rest ≡ []
EndsWell (gives item ∷ rest) = choose (ends item.kind) (rest ≡ []) (EndsWell rest)

-- there is a current token, and the answers after it end
abbrev pub Now : Option Lexeme → List Answer → Type 0
Now None items = ⊥
Now (Some t) items = (ignored t.kind ≡ None) × choose (is_end t.kind) (items ≡ []) (EndsWell items)

abbrev pub all_tokens : List Answer → Bool
all_tokens [] = true
all_tokens (answer ∷ answers) = is_token answer and all_tokens answers

pub all_tokens-append : (xs ys : List Answer) → all_tokens xs ≡ true → all_tokens ys ≡ true
    → all_tokens (xs ++ ys) ≡ true
unfolding ◌and◌
all_tokens-append [] ys h g = g
all_tokens-append (answer ∷ xs) ys h g = elim (either (is_token answer)) [
  | inl p ↦ rw p (all_tokens-append xs ys (rw p at h) g)
  | inr p ↦ false-true refl (rw p at h)
]

-- reports stay, and so does what is settled of the tree
abbrev pub Stays : State → State → Type 0
Stays state after = (m : ℕ) → Settled m state.tree → Settled m after.tree

pub record Grows (state after : State) : Type 0 where
  pub reports : Reports state after
  pub stays : Stays state after

pub grows-on : (state after later : State) → Grows state after → Grows after later → Grows state later
grows-on state after later grows second_grows = record {
  reports = reports-then state after later grows.reports second_grows.reports;
  stays = λ m z. second_grows.stays m (grows.stays m z);
}

reading-grows : {xs : List Answer} {state after : State} → Reading xs state after → Grows state after
reading-grows {after = after} this_reading =
    record { reports = read-reports this_reading; stays = λ m. subst (Settled m) (sym (untouched this_reading).tree) }

-- ignored tokens are no tokens of the grammar
pub ignored-tokens : (token_kind : TokenKind) (leaf : SyntaxKind) (text : Text) → ignored token_kind ≡ Some leaf
    → kind_tokens token_kind text ≡ []
ignored-tokens k leaf text = ignored-kinds (λ k own. kind_tokens k text ≡ []) refl refl refl k leaf

pub ignored-end : (token_kind : TokenKind) (leaf : SyntaxKind) → ignored token_kind ≡ Some leaf
    → is_end token_kind ≡ false
ignored-end = ignored-kinds (λ k own. is_end k ≡ false) refl refl refl

-- ---- the current token

-- the tokens that the end and any other current token give
pub end-kind : (token_kind : TokenKind) → is_end token_kind ≡ true → token_kind ≡ token.Eof
end-kind token.Eof e = refl
end-kind _ e = absurd cc

pub shown-kind : (token_kind : TokenKind) → ignored token_kind ≡ None
    → is_significant_kind token_kind ≡ not (is_end token_kind)
shown-kind token.Whitespace i = absurd cc
shown-kind token.Comment i = absurd cc
shown-kind token.Comma i = absurd cc
shown-kind token.Eof i = refl
shown-kind _ i = refl

pub significant : (token_kind : TokenKind) (text : Text) → is_end token_kind ≡ false → ignored token_kind ≡ None
    → kind_tokens token_kind text ≡ (leaf_number token_kind, text) ∷ []
significant token_kind text e i =
    ap (λ (b : Bool). if b then token_of (record { kind = token_kind; text = text }) ∷ [] else [])
    (shown-kind token_kind i ∙ ap not e)

-- the current token is the end, and nothing is left; or it is the first that is left
pub record AtEnd (lexeme : Lexeme) (items : List Answer) : Type 0 where
  pub kind : lexeme.kind ≡ token.Eof
  pub none : items ≡ []
  pub nothing : current_tokens (Some lexeme) ++ answers_tokens items ≡ []

pub record AtToken (lexeme : Lexeme) (items : List Answer) : Type 0 where
  pub is_end : is_end lexeme.kind ≡ false
  pub shown : ignored lexeme.kind ≡ None
  pub first : current_tokens (Some lexeme)
      ++ answers_tokens items ≡ (leaf_number lexeme.kind, lexeme.text) ∷ answers_tokens items

pub end-or-token : (lexeme : Lexeme) (items : List Answer) → Now (Some lexeme) items
    → AtEnd lexeme items ⊎ AtToken lexeme items
end-or-token lexeme items now = elim (either (is_end lexeme.kind)) [
  | inl e ↦ (
      let k = end-kind lexeme.kind e in
      let none : items ≡ [] = subst (λ (b : Bool). choose b (items ≡ []) (EndsWell items)) e now.1 in
      inl (record {
        kind = k;
        none = none;
        nothing = ap₂ (λ (j : TokenKind) (xs : List Answer). kind_tokens j lexeme.text ++ answers_tokens xs) k none;
      }))
  | inr e ↦ inr (record {
    is_end = e;
    shown = now.0;
    first = ap (λ (v : List Token). v ++ answers_tokens items) (significant lexeme.kind lexeme.text e now.0);
  })
]

-- What holds at each state of a run: the current token is shown, and the answers after it end.
abbrev pub NowOrNone : Option Lexeme → List Answer → Type 0
NowOrNone None items = ⊤
NowOrNone (Some t) items = Now (Some t) items

pub reading-now : {xs : List Answer} {state after : State} → Reading xs state after → EndsWell xs
    → NowOrNone after.current after.items
reading-now stops ends_well = absurd ends_well
reading-now {after = after} (cuts this_reading) ends_well = subst (λ (o : Option Lexeme). NowOrNone o after.items)
    (sym (reading-none this_reading ends_well)) tt
reading-now (bad_text i this_reading) ends_well = reading-now this_reading (rw i at ends_well)
reading-now (waits {this_token_kind = this_token_kind} {own = own} i j this_reading) ends_well =
    reading-now this_reading (rw (i, ignored-end this_token_kind own j) at ends_well)
reading-now (shows i j) ends_well = (j, rw i at ends_well)

now-after : {xs : List Answer} {state after : State} (lexeme : Lexeme) → Reading xs state after → Now (Some lexeme) xs
    → NowOrNone after.current after.items
now-after {after = after} lexeme this_reading now = elim (either (is_end lexeme.kind)) [
  | inl e ↦ subst (λ (o : Option Lexeme). NowOrNone o after.items) (sym (reading-none this_reading (rw e at now.1))) tt
  | inr e ↦ reading-now this_reading (rw e at now.1)
]

pub now-along : Holds_along (Keeps_reading NowOrNone)
now-along = along-reading NowOrNone
    (λ leaf x s e h. now-after x (reading s.items (record s { tree = add_leaf leaf x.text s.tree }))
    (subst (λ (o : Option Lexeme). NowOrNone o s.items) e h))

-- the answer that gave the current token
abbrev pub given : Lexeme → Answer
given lexeme = gives (record { kind = Some lexeme.kind; text = lexeme.text; index = lexeme.index })

-- what is reported of an answer that is no token
abbrev pub report_of : Answer → Report
report_of (limit_at index) = token_limit_report index
report_of (gives item) = bad_report item.text item.index

module _ (answers : List Answer) where
  -- all answers before these were tokens
  pub record Passed (items : List Answer) : Type 0 where
    pub front : List Answer
    pub split : answers ≡ front ++ items
    pub tokens : all_tokens front ≡ true

  pub passed-one : (answer : Answer) (xs : List Answer) → is_token answer ≡ true → Passed (answer ∷ xs) → Passed xs
  passed-one answer xs h passed = record {
    front = passed.front ++ answer ∷ [];
    split = passed.split ∙ sym (append_assoc passed.front (answer ∷ []) xs);
    tokens = all_tokens-append passed.front (answer ∷ []) passed.tokens (and-i h refl);
  }

  -- the same of the current token and what follows it
  abbrev pub Held : Option Lexeme → List Answer → Type 0
  Held None items = ⊤
  Held (Some t) items = Passed (given t ∷ items)

module _ (answers : List Answer) (Right : Report → ℕ → Type 0) where
  -- There are reports, and the first of them is right. So many tokens were taken before it, and the nodes that ended
  -- before the last of them fit.
  pub record FirstReportIsRight (st : State) : Type 0 where
    pub report : Report
    pub more : List Report
    pub reported : st.errors ≡ report ∷ more
    pub taken : ℕ
    pub right : Right report taken
    pub settled : Settled taken st.tree

  pub first-right-on : (state after : State) → Grows state after → FirstReportIsRight state → FirstReportIsRight after
  first-right-on state after grows h = record {
    report = h.report;
    more = h.more ++ grows.reports.more;
    reported = grows.reports.errors ∙ ap (λ (z : List Report). z ++ grows.reports.more) h.reported;
    taken = h.taken;
    right = h.right;
    settled =
        grows.stays h.taken h.settled;
  }

  -- nothing is reported, and what waits is ignored
  pub record Quiet (st : State) : Type 0 where
    pub clean : st.errors ≡ []
    pub accepts : st.accepts ≡ true
    pub waits : all_ignored st.pending ≡ true

  pub record NothingReported (st : State) : Type 0 where
    pub quiet : Quiet st
    pub now : Now st.current st.items
    pub held : Held answers st.current st.items

  -- a report of an answer that is no token would be right
  abbrev pub WouldBeRight : ℕ → List Token → Type 0
  WouldBeRight m tokens =
      (answer : Answer) (ys : List Answer) → Passed answers (answer ∷ ys) → is_token answer ≡ false
      → answers_tokens ys ≡ tokens
      → Right (report_of answer) m

  -- the first report
  pub first-right : (m : ℕ) (this_report : Report) (state after : State) → Quiet state
      → after.errors ≡ state.errors ++ this_report ∷ [] → Right this_report m
      → Settled m after.tree → FirstReportIsRight after
  first-right m this_report state after quiet e i f = record {
    report = this_report;
    more = [];
    reported = e ∙ ap (λ (z : List Report). z ++ this_report ∷ []) quiet.clean;
    taken = m;
    right = i;
    settled = f;
  }

  pub read-on : {xs : List Answer} {state after : State} → Reading xs state after → (m : ℕ) → Quiet state
      → EndsWell xs → Passed answers xs
      → WouldBeRight m (answers_tokens xs) → Settled m state.tree
      → FirstReportIsRight after ⊎ (NothingReported after × (rest after ≡ answers_tokens xs))
  read-on stops m q ends_well passed would_be_right settled = absurd ends_well
  read-on {state = state} {after = after} (cuts {index = index} {xs = xs} this_reading) m q ends_well passed
      would_be_right settled =
      let later : State = met index (record state { items = xs }) in
      inl (first-right-on later after (reading-grows this_reading)
      (first-right m (token_limit_report index) state later q refl
      (would_be_right (limit_at index) xs passed refl refl) settled))
  read-on {state = state} {after = after} (bad_text {item = item} {xs = xs} i this_reading) m q ends_well passed
      would_be_right settled =
      let later : State = bad item.text item.index (record state { items = xs }) in
      inl (first-right-on later after (reading-grows this_reading)
      (first-right m (bad_report item.text item.index) state later q refl
      (would_be_right (gives item) xs passed (rw i refl) (rw i refl)) settled))
  read-on {state = state}
      (waits {item = item} {this_token_kind = this_token_kind} {own = own} {xs = xs} i j this_reading) m q
      ends_well passed would_be_right
      settled =
      let same : answers_tokens (gives item ∷ xs) ≡ answers_tokens xs =
      rw (i, ignored-tokens this_token_kind own item.text j) refl in
      let quiet : Quiet (wait own item.text (record state { items = xs })) = record {
        clean = q.clean;
        accepts = q.accepts;
        waits = kinds-more _ _ (record { kind = own; text = item.text }) q.waits (ignored-leaf this_token_kind own j);
      } in
      elim (read-on this_reading m quiet (rw (i, ignored-end this_token_kind own j) at ends_well)
      (passed-one answers (gives item) xs (rw i refl) passed)
      (subst (WouldBeRight m) same would_be_right) settled) [
        | inl o ↦ inl o
        | inr o ↦ inr (o.0, o.1 ∙ sym same)
      ]
  read-on (shows {item = item} {this_token_kind = this_token_kind} {xs = xs} i j) m q ends_well passed
      would_be_right settled = inr (
        record {
          quiet = record { clean = q.clean; accepts = q.accepts; waits = q.waits };
          now = (j, rw i at ends_well);
          held = subst (λ (x : Item). Passed answers (gives x ∷ xs)) (sym (item-is item this_token_kind i)) passed;
        },
        rw i refl,
      )
