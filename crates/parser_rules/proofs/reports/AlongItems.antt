-- Each run reports along what it reads.
use Rattle.std.proofs.Common.{◌≡◌, ℕ, Bool, true, List, [], ◌∷◌, ◌++◌, Option, Some, None, refl, sym, ap, ◌∙◌, subst}
use Rattle.std.proofs.Common.{append_assoc, append-nil}
use Rattle.lexical_grammar.specs.Answers.{Answer, gives, limit_at}
use Rattle.lexical_grammar.specs.Cut.{Item}
use Rattle.document_grammar.specs.Builds.{add_leaf}
use Rattle.document_grammar.specs.declared.kind.SyntaxKind.{SyntaxKind}
use Rattle.parser_rules.proofs.runs.Reading.{Reading, stops, cuts, bad_text, waits, shows, reading, item-is, Shown}
use Rattle.parser_rules.proofs.runs.Steps.{Holds_along, along, turns-along}
use Rattle.parser_rules.specs.Reports.{Reported, no_more, bad_text as bad_item, token_limit, fault, recursion_limit}
use Rattle.parser_rules.specs.Reports.{passed}
use Rattle.parser_rules.specs.RuleLanguage.{Test, Rule}
use Rattle.parser_rules.specs.Runs.{Runs, Turns}
use Rattle.parser_rules.specs.State.{State, Lexeme, Report, bad_report, token_limit_report, recursion_limit_report}
use Rattle.parser_rules.specs.State.{fault_report, read_on, flush, closed, wrapped_from, enter, leave, fresh, begun}
use Rattle.parser_rules.specs.declared.message.Message.{Message}

-- the current token as an item
abbrev pub item_of : Lexeme → Item
item_of lexeme = record { kind = Some lexeme.kind; text = lexeme.text; index = lexeme.index }

abbrev pub ahead_of : Option Lexeme → List Answer → List Answer
ahead_of None items = items
ahead_of (Some x) items = gives (item_of x) ∷ items

-- the current token and the answers that are left
abbrev pub ahead : State → List Answer
ahead state = ahead_of state.current state.items

-- From a first token, these answers after it and these reports on to a state: some answers are gone, and the rest is
-- left. Whatever comes in place of the rest, reports of the items that the state has ahead then are reports of the
-- whole.
abbrev pub Onward : Bool → Option Lexeme → List Answer → List Report → State → Type 0
Onward taken first items reports after = record {
  gone : List Answer;
  left : items ≡ gone ++ after.items;
  more : List Report;
  are : after.errors ≡ reports ++ more;
  onward : (rest : List Answer) (later : List Report) → Reported after.accepts (ahead_of after.current rest) later
      → Reported taken (ahead_of first (gone ++ rest)) (more ++ later);
  shown : Shown after.current;
}

-- the same of the answers that are left
pub onward-all : {taken : Bool} (first : Option Lexeme) {items : List Answer} (reports : List Report) (state : State)
    (onward : Onward taken first items reports state) (later : List Report)
    → Reported state.accepts (ahead state) later → Reported taken (ahead_of first items) (onward.more ++ later)
onward-all {taken = taken} first reports state onward later l =
    subst (λ (ys : List Answer). Reported taken (ahead_of first ys) (onward.more ++ later))
    (sym onward.left) (onward.onward state.items later l)

-- ---- reading on

reports-one : {taken held : Bool} {rest : List Answer} (answer : Answer) (reports : List Report)
    (state : State) (report : Report)
    → ((ys : List Answer) (later : List Report) → Reported held ys later
    → Reported taken (answer ∷ ys) (report ∷ later))
    → Onward held None rest (reports ++ report ∷ []) state → Onward taken None (answer ∷ rest) reports state
reports-one answer reports state report step h = record {
  gone = answer ∷ h.gone;
  left = ap (λ (l : List Answer). answer ∷ l) h.left;
  more = report ∷ h.more;
  are = h.are ∙ append_assoc reports (report ∷ []) h.more;
  onward = λ rest later l. step (h.gone ++ rest) (h.more ++ later) (h.onward rest later l);
  shown = h.shown;
}

reports-none : {taken held : Bool} {rest : List Answer} (answer : Answer) (reports : List Report) (state : State)
    → ((ys : List Answer) (later : List Report) → Reported held ys later → Reported taken (answer ∷ ys) later)
    → Onward held None rest reports state
    → Onward taken None (answer ∷ rest) reports state
reports-none answer reports state step h = record {
  gone = answer ∷ h.gone;
  left = ap (λ (l : List Answer). answer ∷ l) h.left;
  more = h.more;
  are = h.are;
  onward = λ rest later l. step (h.gone ++ rest) (h.more ++ later) (h.onward rest later l);
  shown = h.shown;
}

stands : (state : State) → Shown state.current → Onward state.accepts state.current state.items state.errors state
stands state i = record {
  gone = [];
  left = refl;
  more = [];
  are = sym (append-nil state.errors);
  onward = λ rest later l. l;
  shown = i;
}

read-onward : {xs : List Answer} {state after : State} → Reading xs state after → state.items ≡ xs
    → Onward state.accepts None xs state.errors after
read-onward {state = state} stops e =
    record {
      gone = [];
      left = sym e;
      more = [];
      are = sym (append-nil state.errors);
      onward = λ rest later l. l;
      shown = tt;
    }
read-onward {state = state} {after = after} (cuts {index = index} this_reading) e =
    reports-one (limit_at index) state.errors after (token_limit_report index) (λ ys later l. token_limit l)
    (read-onward this_reading refl)
read-onward {state = state} {after = after} (bad_text {item = item} i this_reading) e =
    reports-one (gives item) state.errors after (bad_report item.text item.index) (λ ys later l. bad_item i l)
    (read-onward this_reading refl)
read-onward {state = state} {after = after} (waits {item = item} i j this_reading) e =
    reports-none (gives item) state.errors after (λ ys later l. passed i l) (read-onward this_reading refl)
read-onward {state = state} (shows {item = item} {this_token_kind = this_token_kind} {xs = xs} i j) e = record {
  gone = gives item ∷ [];
  left = refl;
  more = [];
  are = sym (append-nil state.errors);
  onward = λ rest later l. subst (λ (x : Item). Reported state.accepts (gives x ∷ rest) later)
      (item-is item this_token_kind i) l;
  shown = j;
}

-- ---- along a run

abbrev pub Tells : State → State → Type 0
Tells state after = Shown state.current → Onward state.accepts state.current state.items state.errors after

tells-on : (state after later_state : State) → Tells state after → Tells after later_state → Tells state later_state
tells-on state after later_state tells second_tells i =
    let f = tells i in
    let g = second_tells f.shown in
    record {
      gone = f.gone ++ g.gone;
      left = f.left ∙ ap (λ (l : List Answer). f.gone ++ l) g.left ∙ sym (append_assoc f.gone g.gone later_state.items);
      more = f.more ++ g.more;
      are = g.are ∙ ap (λ reports. reports ++ g.more) f.are ∙ append_assoc state.errors f.more g.more;
      onward = λ rest later l.
          subst (λ reports. Reported state.accepts (ahead_of state.current ((f.gone ++ g.gone) ++ rest)) reports)
          (sym (append_assoc f.more g.more later))
          (subst (λ ys. Reported state.accepts (ahead_of state.current ys) (f.more ++ (g.more ++ later)))
          (sym (append_assoc f.gone g.gone rest))
          (f.onward (g.gone ++ rest) (g.more ++ later) (g.onward rest later l)));
      shown = g.shown;
    }

moves-on : (leaf : SyntaxKind) (lexeme : Lexeme) (state : State) → state.current ≡ Some lexeme
    → Tells state (read_on state.items (record state { tree = add_leaf leaf lexeme.text state.tree }))
moves-on leaf lexeme state e i =
    let after : State = record state { tree = add_leaf leaf lexeme.text state.tree } in
    let h = read-onward (reading state.items after) refl in
    record {
      gone = h.gone;
      left = h.left;
      more = h.more;
      are = h.are;
      onward = λ rest later l. subst
          (λ (o : Option Lexeme). Reported state.accepts (ahead_of o (h.gone ++ rest)) (h.more ++ later)) (sym e)
          (passed {item = item_of lexeme} refl (h.onward rest later l));
      shown = h.shown;
    }

pub tells-along : Holds_along Tells
unfolding flush closed enter leave wrapped_from
tells-along = record {
  same = stands;
  next = tells-on;
  flushes = stands;
  moves = λ leaf x s e w. moves-on leaf x s e;
  reports = λ m x s e a i. record {
    gone = [];
    left = refl;
    more = fault_report m x ∷ [];
    are = refl;
    onward = λ rest later. rw (e, a) (fault m {item = item_of x} refl (subst Shown e i));
    shown = i;
  };
  limits = λ x s e a d i. record {
    gone = [];
    left = refl;
    more = recursion_limit_report x ∷ [];
    are = refl;
    onward = λ rest later. rw (e, a) (recursion_limit {item = item_of x} refl (subst Shown e i));
    shown = i;
  };
  asks = stands;
  nodes = λ k s u h. h;
  levels = λ s u q h. h;
  wraps = λ k t u w h l. tells-on t u w h l;
}

-- the reports so far, from the first answer on
pub so_far : (items : List Answer) (limit : ℕ) (kind : SyntaxKind) (state : State)
    → Tells (begun items limit kind) state → Onward true None items [] state
so_far items limit kind state tells = tells-on (fresh items limit kind) (begun items limit kind) state
    (λ i. read-onward (reading items (fresh items limit kind)) refl) tells tt

ends-here : (taken : Bool) (found : Option Lexeme) → Reported taken (ahead_of found []) []
ends-here taken None = no_more
ends-here taken (Some x) = passed refl no_more

-- the reports so far are those of the answers that are gone, the current token's among them
pub reported-gone : {items : List Answer} (state : State) (onward : Onward true None items [] state)
    → Reported true onward.gone state.errors
reported-gone state onward =
    subst (λ (ys : List Answer). Reported true ys state.errors) (append-nil onward.gone)
    (subst (Reported true (onward.gone ++ [])) (sym (onward.are ∙ sym (append-nil onward.more)))
    (onward.onward [] [] (ends-here state.accepts state.current)))

-- where all is read, the reports are those of the answers
pub reported : {rule : Rule} {state : State} (items : List Answer) (limit : ℕ) (kind : SyntaxKind)
    → Runs rule (begun items limit kind) state → state.items ≡ []
    → Reported true items state.errors
reported {state = state} items limit kind run none =
    let h = so_far items limit kind state (along tells-along run) in
    let last : Reported state.accepts (ahead state) [] =
    subst (λ xs. Reported state.accepts (ahead_of state.current xs) []) (sym none)
    (ends-here state.accepts state.current) in
    subst (Reported true items) (sym (h.are ∙ sym (append-nil h.more))) (onward-all None [] state h [] last)

-- at a turn of a loop the reports so far are those of the answers, and a report at the current token could follow,
-- where no later answer has one
pub reported-at : {rule other_rule : Rule} {test : Test} {before state : State} (items : List Answer) (limit : ℕ)
    (kind : SyntaxKind) (message : Message)
    (lexeme : Lexeme) → Runs rule (begun items limit kind) before → Turns test other_rule before state
    → state.current ≡ Some lexeme → state.accepts ≡ true
    → Reported true state.items []
    → Reported true items (state.errors ++ fault_report message lexeme ∷ [])
reported-at {before = before} {state = state} items limit kind message lexeme run turns e ac none =
    let one : Report = fault_report message lexeme in
    let h = so_far items limit kind state
    (tells-on (begun items limit kind) before state (along tells-along run) (turns-along tells-along turns)) in
    let last : Reported state.accepts (ahead state) (one ∷ []) = rw (e, ac)
    (fault message {item = item_of lexeme} refl (subst Shown e h.shown) (passed refl none)) in
    subst (Reported true items) (sym (ap (λ reports. reports ++ one ∷ []) h.are))
    (onward-all None [] state h (one ∷ []) last)
