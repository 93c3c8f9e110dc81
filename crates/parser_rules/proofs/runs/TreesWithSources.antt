-- Trees that know which token each leaf is, and what a run adds: its trees, what they are made of, and its reports.
use Rattle.std.proofs.Common.{◌≡◌, ℕ, true, false, List, [], ◌∷◌, ◌++◌, Option, Some, None, refl, sym, ap, ap₂, ◌∙◌}
use Rattle.std.proofs.Common.{subst, append_assoc, append-nil, ◌⊎◌, inl, inr}
use Rattle.lexical_grammar.specs.Answers.{Answer, gives, limit_at}
use Rattle.lexical_grammar.specs.Cut.{Item}
use Rattle.lexical_grammar.specs.declared.TokenKind.{TokenKind}
use Rattle.document_grammar.proofs.Added.{Added, added-none, added-then, added-node, added-wrap}
use Rattle.document_grammar.proofs.Booleans.{false-true, either}
use Rattle.document_grammar.specs.Builds.{Building, add_leaf, built_count}
use Rattle.document_grammar.specs.Forests as built
use Rattle.document_grammar.specs.declared.kind.SyntaxKind.{SyntaxKind}
use Rattle.document_grammar.specs.declared.kind.SyntaxKind.TheVariants as kind
use Rattle.parser_rules.proofs.runs.Frame.{read-untouched, parts_forest, added-all, added-read}
use Rattle.parser_rules.proofs.runs.Reading.{Reading, stops, cuts, bad_text, waits, shows, reading}
use Rattle.parser_rules.proofs.runs.Reporting.{after-note, after-too-deep}
use Rattle.parser_rules.proofs.runs.Steps.{Holds_along, step-along, too_deep-along}
use Rattle.parser_rules.specs.RuleLanguage.{Note, step}
use Rattle.parser_rules.specs.State.{State, Lexeme, PendingToken, Text, Report, at_limit, bad_report}
use Rattle.parser_rules.specs.State.{token_limit_report, recursion_limit_report, fault_report, ignored, bad, met}
use Rattle.parser_rules.specs.State.{lexeme, read_on, add_all, flush, opened, closed, wrapped_from, note, is_deep}
use Rattle.parser_rules.specs.State.{enter, leave, too_deep, fresh, begun}
use Rattle.parser_rules.specs.declared.message.Message.{Message}

-- what a leaf is: a significant token, or an ignored token or bad text
pub data Source : Type 0 where
  token : Lexeme → Source
  aside : PendingToken → Source

abbrev pub text_of : Source → Text
text_of (token this_lexeme) = this_lexeme.text
text_of (aside pending_token) = pending_token.text

pub data TreesWithSources : Type 0 where
  none : TreesWithSources
  leaf : Source → SyntaxKind → TreesWithSources → TreesWithSources
  node : SyntaxKind → TreesWithSources → TreesWithSources → TreesWithSources

abbrev pub erase : TreesWithSources → built.Forest
erase none = built.none
erase (leaf source this_kind rest) = built.leaf this_kind (text_of source) (erase rest)
erase (node this_kind kids rest) = built.node this_kind (erase kids) (erase rest)

abbrev pub append : TreesWithSources → TreesWithSources → TreesWithSources
append none trees = trees
append (leaf source this_kind rest) trees = leaf source this_kind (append rest trees)
append (node this_kind kids rest) trees = node this_kind kids (append rest trees)

pub append-none : (trees : TreesWithSources) → append trees none ≡ trees
append-none none = refl
append-none (leaf source this_kind rest) = ap (leaf source this_kind) (append-none rest)
append-none (node this_kind kids rest) = ap (node this_kind kids) (append-none rest)

pub erase-append : (trees more_trees : TreesWithSources)
    → erase (append trees more_trees) ≡ built.join (erase trees) (erase more_trees)
erase-append none more_trees = refl
erase-append (leaf source this_kind rest) more_trees =
    ap (built.leaf this_kind (text_of source)) (erase-append rest more_trees)
erase-append (node this_kind kids rest) more_trees =
    ap (built.node this_kind (erase kids)) (erase-append rest more_trees)

-- what the leaves are, in order
abbrev pub flat : TreesWithSources → List Source
flat none = []
flat (leaf source this_kind rest) = source ∷ flat rest
flat (node this_kind kids rest) = flat kids ++ flat rest

pub flat-append : (trees more_trees : TreesWithSources) → flat (append trees more_trees) ≡ flat trees ++ flat more_trees
flat-append none more_trees = refl
flat-append (leaf source this_kind rest) more_trees = ap (λ (l : List Source). source ∷ l) (flat-append rest more_trees)
flat-append (node this_kind kids rest) more_trees =
    ap (λ (l : List Source). flat kids ++ l) (flat-append rest more_trees)
    ∙ sym (append_assoc (flat kids) (flat rest) (flat more_trees))

-- what waits, as leaves
abbrev pub set_aside : List PendingToken → TreesWithSources
set_aside [] = none
set_aside (pending_token ∷ parts) = leaf (aside pending_token) pending_token.kind (set_aside parts)

pub erase-aside : (parts : List PendingToken) → erase (set_aside parts) ≡ parts_forest parts
erase-aside [] = refl
erase-aside (pending_token ∷ parts) = ap (built.leaf pending_token.kind pending_token.text) (erase-aside parts)

-- ---- what is to come

abbrev pub now_of : Option Lexeme → List Source
now_of None = []
now_of (Some x) = token x ∷ []

abbrev pub source_of : Item → TokenKind → Option SyntaxKind → Source
source_of item token_kind None = token (lexeme token_kind item)
source_of item token_kind (Some own) = aside (record { kind = own; text = item.text })

abbrev pub source_at : Item → Option TokenKind → Source
source_at item None = aside (record { kind = kind.ERROR; text = item.text })
source_at item (Some k) = source_of item k (ignored k)

-- what is said of an item and what its leaf is made of, by the item's kind
pub by-kind : (P : Option TokenKind → Source → Type 0) (item : Item)
    → P None (aside (record { kind = kind.ERROR; text = item.text }))
    → ((token_kind : TokenKind) → ignored token_kind ≡ None → P (Some token_kind) (token (lexeme token_kind item)))
    → ((token_kind : TokenKind) (own : SyntaxKind) → ignored token_kind ≡ Some own
    → P (Some token_kind) (aside (record { kind = own; text = item.text })))
    → P item.kind (source_at item item.kind)
by-kind P item of_bad of_token of_ignored = at item.kind
  where
    at : (found : Option TokenKind) → P found (source_at item found)
    at None = of_bad
    at (Some k) = (elim (ignored k) as (λ o. ignored k ≡ o → P (Some k) (source_of item k o))
        [ None ↦ of_token k | Some own ↦ of_ignored k own ]) refl

-- what the answers are: the significant tokens, and what is between
abbrev pub sources : List Answer → List Source
sources [] = []
sources (limit_at index ∷ rest) = sources rest
sources (gives item ∷ rest) = source_at item item.kind ∷ sources rest

pub sources-append : (xs ys : List Answer) → sources (xs ++ ys) ≡ sources xs ++ sources ys
sources-append [] ys = refl
sources-append (limit_at index ∷ xs) ys = sources-append xs ys
sources-append (gives item ∷ xs) ys = ap (λ (v : List Source). source_at item item.kind ∷ v) (sources-append xs ys)

abbrev pub to_come : State → List Source
to_come state = flat (set_aside state.pending) ++ (now_of state.current ++ sources state.items)

waits-more : (pending : List PendingToken) (pending_token : PendingToken) (these_sources : List Source)
    → flat (set_aside (pending ++ pending_token ∷ [])) ++ these_sources ≡ flat (set_aside pending)
    ++ (aside pending_token ∷ these_sources)
waits-more [] pending_token these_sources = refl
waits-more (q ∷ pending) pending_token these_sources =
    ap (λ (z : List Source). aside q ∷ z) (waits-more pending pending_token these_sources)

pub read-to_come : {xs : List Answer} {state after : State} → Reading xs state after → state.items ≡ xs
    → to_come after ≡ flat (set_aside state.pending) ++ sources xs
read-to_come {state = state} stops e = ap (λ (xs : List Answer). flat (set_aside state.pending) ++ sources xs) e
read-to_come (cuts this_reading) e = read-to_come this_reading refl
read-to_come {state = state} (bad_text {item = item} {xs = xs} i this_reading) e =
    rw i (read-to_come this_reading refl
    ∙ waits-more state.pending (record { kind = kind.ERROR; text = item.text }) (sources xs))
read-to_come {state = state} (waits {item = item} {own = own} {xs = xs} i j this_reading) e =
    rw (i, j) (read-to_come this_reading refl
    ∙ waits-more state.pending (record { kind = own; text = item.text }) (sources xs))
read-to_come (shows i j) e = rw (i, j) refl

-- ---- what a run adds

pub record Has (errors : List Report) (report : Report) : Type 0 where
  pub before : List Report
  pub after : List Report
  pub split : errors ≡ before ++ (report ∷ after)

pub has-more : (errors more : List Report) (report : Report) → Has errors report → Has (errors ++ more) report
has-more errors more report has = record {
  before = has.before;
  after = has.after ++ more;
  split = ap (λ (z : List Report). z ++ more) has.split ∙ append_assoc has.before (report ∷ has.after) more;
}

has-later : (errors more : List Report) (report : Report) → Has more report → Has (errors ++ more) report
has-later errors more report has = record {
  before = errors ++ has.before;
  after = has.after;
  split = ap (λ (z : List Report). errors ++ z) has.split ∙ sym (append_assoc errors has.before (report ∷ has.after));
}

-- the report of a limit is among these
abbrev pub Limited : List Report → Type 0
Limited errors = (report : Report) × (report.found ≡ at_limit) × Has errors report

pub limited-later : (errors more : List Report) → Limited more → Limited (errors ++ more)
limited-later errors more limited = (limited.0, limited.1, has-later errors more limited.0 limited.2)

-- the reports go on, and the grammar's are taken until a limit is reported
abbrev pub Reports : State → State → Type 0
Reports state after = record {
  more : List Report;
  errors : after.errors ≡ state.errors ++ more;
  keeps : after.accepts ≡ true
      → state.accepts ≡ true;
  limited : state.accepts ≡ true → after.accepts ≡ false → Limited more;
}

pub reports-same : (state after : State) → after.errors ≡ state.errors
    → after.accepts ≡ state.accepts → Reports state after
reports-same state after e a =
    record {
      more = [];
      errors = e ∙ sym (append-nil state.errors);
      keeps = λ z. sym a
          ∙ z;
      limited = λ z y. false-true y (a ∙ z);
    }

pub reports-then : (state after later : State) → Reports state after → Reports after later → Reports state later
reports-then state after later reports second_reports = record {
  more = reports.more ++ second_reports.more;
  errors = second_reports.errors ∙ (ap (λ (z : List Report). z ++ second_reports.more) reports.errors
      ∙ append_assoc state.errors reports.more second_reports.more);
  keeps = λ z. reports.keeps (second_reports.keeps z);
  limited = λ z y. elim (either after.accepts) [
    | inl a ↦ limited-later reports.more second_reports.more
        (second_reports.limited a y)
    | inr a ↦ (let l = reports.limited z a in (l.0, l.1, has-more reports.more second_reports.more l.0 l.2))
  ];
}

-- one report more, of a limit or not
reports-more : (state after : State) (report : Report) → after.errors ≡ state.errors ++ report ∷ []
    → after.accepts ≡ state.accepts → Reports state after
reports-more state after report e a =
    record { more = report ∷ []; errors = e; keeps = λ z. sym a ∙ z; limited = λ z y. false-true y (a ∙ z) }

reports-limit : (state next_state : State) (report : Report) → report.found ≡ at_limit
    → next_state.errors ≡ state.errors ++ report ∷ []
    → next_state.accepts ≡ false → Reports state next_state
reports-limit state next_state report l e a = record {
  more = report ∷ [];
  errors = e;
  keeps = λ z. false-true a z;
  limited = λ z y. (report, l, record { before = []; after = []; split = refl });
}

pub read-reports : {xs : List Answer} {state after : State} → Reading xs state after → Reports state after
read-reports {state = state} stops = reports-same state state refl refl
read-reports {state = state} {after = after} (cuts {index = index} {xs = xs} this_reading) =
    let later : State = met index (record state { items = xs }) in
    reports-then state later after (reports-limit state later (token_limit_report index) refl refl refl)
    (read-reports this_reading)
read-reports {state = state} {after = after} (bad_text {item = item} {xs = xs} e this_reading) =
    let later : State = bad item.text item.index (record state { items = xs }) in
    reports-then state later after (reports-more state later (bad_report item.text item.index) refl refl)
    (read-reports this_reading)
read-reports (waits e i this_reading) = read-reports this_reading
read-reports {state = state} (shows e i) = reports-same state state refl refl

-- at the end of a run from the beginning on the grammar's reports are taken, or a limit is reported
pub taken-or-limited : (xs : List Answer) (max_depth : ℕ) (this_kind : SyntaxKind) (state : State)
    → Reports (begun xs max_depth this_kind) state
    → (state.accepts ≡ true) ⊎ Limited state.errors
taken-or-limited xs max_depth this_kind state reports =
    let p = reports-then (fresh xs max_depth this_kind) (begun xs max_depth this_kind) state
    (read-reports (reading xs (fresh xs max_depth this_kind))) reports in
    elim (either state.accepts) [ inl y ↦ inl y | inr y ↦ inr (subst Limited (sym p.errors) (p.limited refl y)) ]

-- the current token is in the tree, and the next one is not read yet
abbrev pub moved_on : SyntaxKind → Lexeme → State → State
moved_on own this_lexeme state = record state { tree = add_leaf own this_lexeme.text state.tree }

pub reports-along : Holds_along Reports
unfolding flush closed enter leave wrapped_from
reports-along = record {
  same = λ s. reports-same s s refl refl;
  next = reports-then;
  flushes = λ s. reports-same s s refl refl;
  moves = λ leaf x s e w. read-reports (reading s.items (moved_on leaf x s));
  reports = λ m x s c a. reports-more s (record s { errors = s.errors ++ fault_report m x ∷ [] })
      (fault_report m x) refl refl;
  limits = λ x s c a d. reports-limit s
      (record s { errors = s.errors ++ recursion_limit_report x ∷ []; accepts = false })
      (recursion_limit_report x) refl refl refl;
  asks = λ s. reports-same s s refl refl;
  nodes = λ k s u h. h;
  levels = λ s u q h. h;
  wraps = λ k t u w h l. reports-then t u w h l;
}

-- ---- the trees, what they are made of, and the reports

abbrev pub Grown : State → State → TreesWithSources → Type 0
Grown state after these_trees = record {
  trees : Added (erase these_trees) state.tree after.tree;
  order : flat these_trees ++ to_come after ≡ to_come state;
  reports : Reports state after;
}

pub grown-none : (state : State) → Grown state state none
grown-none state = record { trees = added-none state.tree; order = refl; reports = reports-along.same state }

pub grown-then : (state after later : State) (these_trees more_trees : TreesWithSources) → Grown state after these_trees
    → Grown after later more_trees
    → Grown state later (append these_trees more_trees)
grown-then state after later these_trees more_trees grown second_grown = record {
  trees = subst (λ (x : built.Forest). Added x state.tree later.tree) (sym (erase-append these_trees more_trees))
      (added-then grown.trees second_grown.trees);
  order = ap (λ (l : List Source). l ++ to_come later) (flat-append these_trees more_trees)
      ∙ (append_assoc (flat these_trees) (flat more_trees) (to_come later) ∙
      (ap (λ (l : List Source). flat these_trees ++ l) second_grown.order ∙ grown.order));
  reports = reports-then state after later grown.reports second_grown.reports;
}

pub grown-flush : (state : State) → Grown state (flush state) (set_aside state.pending)
unfolding flush
grown-flush state = record {
  trees = subst (λ (x : built.Forest). Added x state.tree (add_all state.pending state.tree))
      (sym (erase-aside state.pending))
      (added-all state.pending state.tree);
  order = refl;
  reports = reports-along.flushes state;
}

pub grown-leaf : (own : SyntaxKind) (this_lexeme : Lexeme) (state : State)
    → state.current ≡ Some this_lexeme → state.pending ≡ []
    → Grown state (read_on state.items (moved_on own this_lexeme state)) (leaf (token this_lexeme) own none)
grown-leaf own this_lexeme state c w =
    let h = reading state.items (moved_on own this_lexeme state) in
    record {
      trees = added-read own this_lexeme.text state;
      order = ap (λ (l : List Source). token this_lexeme ∷ l) (read-to_come h refl)
          ∙ ap (λ (p : List PendingToken). token this_lexeme ∷ (flat (set_aside p) ++ sources state.items)) w
          ∙ sym (ap₂ (λ (p : List PendingToken) (found : Option Lexeme). flat (set_aside p)
          ++ (now_of found ++ sources state.items)) w c);
      reports = read-reports h;
    }

pub grown-note : (message : Message) (state : State) → Grown state (note message state) none
unfolding step
grown-note message state = record {
  trees = after-note (λ t. Added built.none state.tree t.tree) message state (λ errors. added-none state.tree);
  order = after-note (λ t. to_come t ≡ to_come state) message state (λ errors. refl);
  reports = step-along reports-along (Note message) state;
}

pub grown-deep : (state : State) → true ≡ is_deep state → Grown state (too_deep state) none
grown-deep state d = record {
  trees = after-too-deep (λ t. Added built.none state.tree t.tree) state (λ errors accepts. added-none state.tree);
  order = after-too-deep (λ t. to_come t ≡ to_come state) state (λ errors accepts. refl);
  reports = too_deep-along reports-along state d;
}

-- a node around the trees in it, after the waiting leaves
pub grown-node : (this_kind : SyntaxKind) (state later : State) (these_trees : TreesWithSources)
    → Grown (opened this_kind state) later these_trees
    → Grown (flush state) (closed later) (node this_kind these_trees none)
unfolding opened closed flush
grown-node this_kind state later these_trees grown = record {
  trees = added-node this_kind grown.trees;
  order = ap (λ (l : List Source). l ++ to_come later) (append-nil (flat these_trees)) ∙ grown.order;
  reports = grown.reports;
}

pub grown-wrap : (this_kind : SyntaxKind) (state later : State) (these_trees : TreesWithSources)
    → Grown (flush state) later these_trees
    → Grown (opened this_kind state) (wrapped_from (built_count (flush state).tree) this_kind later) these_trees
unfolding opened wrapped_from flush
grown-wrap this_kind state later these_trees grown =
    record { trees = added-wrap this_kind grown.trees; order = grown.order; reports = grown.reports }

-- what was added from the beginning on is the whole tree, of all that was answered
pub record Whole (xs : List Answer) (state : State) (trees : TreesWithSources) : Type 0 where
  pub tree : erase trees ≡ (add_all state.pending state.tree).here
  pub order : flat trees ++ (now_of state.current ++ sources state.items) ≡ sources xs

pub whole : (xs : List Answer) (max_depth : ℕ) (this_kind : SyntaxKind) (state : State) (trees : TreesWithSources)
    → Grown (begun xs max_depth this_kind) state trees → Whole xs state (append trees (set_aside state.pending))
unfolding flush
whole xs max_depth this_kind state trees grown =
    let before : State = begun xs max_depth this_kind in
    let g = grown-then before state (flush state) trees (set_aside state.pending) grown (grown-flush state) in
    record {
      tree = sym (g.trees.here
          ∙ ap (λ (t : Building). built.join t.here (erase (append trees (set_aside state.pending))))
          (read-untouched xs (fresh xs max_depth this_kind)).tree);
      order = g.order ∙ read-to_come (reading xs (fresh xs max_depth this_kind)) refl;
    }

-- the same, where the text before the first token is in the root and what waits at the end is left out
pub record FirstPart (xs : List Answer) (state : State) (trees : TreesWithSources) : Type 0 where
  pub tree : erase trees ≡ state.tree.here
  pub order : flat trees ++ to_come state ≡ sources xs

pub first-part : (xs : List Answer) (max_depth : ℕ) (this_kind : SyntaxKind) (state : State) (trees : TreesWithSources)
    → Grown (begun xs max_depth this_kind) state trees → FirstPart xs state trees
first-part xs max_depth this_kind state trees grown = record {
  tree = sym (grown.trees.here
      ∙ ap (λ (t : Building). built.join t.here (erase trees)) (read-untouched xs (fresh xs max_depth this_kind)).tree);
  order = grown.order ∙ read-to_come (reading xs (fresh xs max_depth this_kind)) refl;
}
