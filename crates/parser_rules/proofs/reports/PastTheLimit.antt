-- Where the highest nesting is more than the recursion limit, a limit is reported.
use Rattle.std.proofs.Common.{◌≡◌, ℕ, ◌≤◌, ◌<◌, Bool, true, false, ◌||◌, not, cond, if◌then◌else◌, List, [], ◌∷◌, ◌++◌}
use Rattle.std.proofs.Common.{Option, Some, None, refl, sym, ap, ◌∙◌, subst, true≢false, inl, inr, arith}
use Rattle.std.proofs.lemmas.Bool.{leb-false, and_parts}
use Rattle.std.specs.Prelude.{is_some}
use Rattle.lexical_grammar.specs.Answers.{Answer, is_end}
use Rattle.lexical_grammar.specs.declared.TokenKind.{TokenKind}
use Rattle.lexical_grammar.specs.declared.TokenKind.TheVariants as token
use Rattle.document_grammar.proofs.Booleans.{either, false-true, and-l, and-r, or-c, not-c, not-some, implies}
use Rattle.document_grammar.specs.Booleans.{◌or◌}
use Rattle.document_grammar.specs.declared.kind.SyntaxKind.{SyntaxKind}
use Rattle.document_grammar.specs.declared.kind.SyntaxKind.TheVariants as kind
use Rattle.parser_rules.proofs.NodeChecks.{node-passes, document_passes}
use Rattle.parser_rules.proofs.recovery.Popped.{cut-off}
use Rattle.parser_rules.proofs.reports.LimitCheck.{Current, unknown, present, inner, is_inner, known, fits_inner}
use Rattle.parser_rules.proofs.reports.LimitCheck.{tells_inner, after_token, is_known, same_inner, begins_level}
use Rattle.parser_rules.proofs.reports.LimitCheck.{limit_check}
use Rattle.parser_rules.proofs.reports.NoReport.{choose, EndsWell, NowOrNone, reading-now, now-along}
use Rattle.parser_rules.proofs.runs.Frame.{read-untouched}
use Rattle.parser_rules.proofs.runs.Fuel.{rules_deep}
use Rattle.parser_rules.proofs.runs.Reading.{reading, found}
use Rattle.parser_rules.proofs.runs.Reporting.{after-note}
use Rattle.parser_rules.proofs.runs.TreesWithSources as trees
use Rattle.parser_rules.proofs.runs.TreesWithSources.{TreesWithSources, append, Limited, Reports, taken-or-limited}
use Rattle.parser_rules.proofs.runs.TreesWithSources.{moved_on, Has, reports-then, read-reports}
use Rattle.parser_rules.proofs.runs.Walk.{after_pending, always, Sound, walked_whole, walk, walked_root}
use Rattle.parser_rules.specs.Nodes.{Node, kind_of, Document}
use Rattle.parser_rules.specs.RuleLanguage.{TokenTest, Kind, Keyword, Or, fits, Test, Here, Ready, Both, holds, Rule}
use Rattle.parser_rules.specs.RuleLanguage.{Call}
use Rattle.parser_rules.specs.Runs.{Runs}
use Rattle.parser_rules.specs.State.{State, Lexeme, Report, recursion_limit_report, read_on, flush, opened, closed}
use Rattle.parser_rules.specs.State.{wrapped_from, moved, note, is_deep, enter, leave, deepened, limited_at, too_deep}
use Rattle.parser_rules.specs.State.{is_over, same_kind, begun, fresh}
use Rattle.parser_rules.specs.declared.message.Message.{Message}

-- ---- what a test says

not-end : (token_kind other_kind : TokenKind) → true ≡ same_kind token_kind other_kind → not (is_end other_kind) ≡ true
    → is_end token_kind ≡ false
unfolding same_kind
not-end token.Eof token.Eof e h = absurd (true≢false (sym h))
not-end token.Eof _ e h = absurd cc
not-end _ other_kind e h = refl

token-inner : (token_test : TokenTest) (maybe_lexeme : Option Lexeme) → fits_inner token_test ≡ true
    → true ≡ fits token_test maybe_lexeme
    → is_inner maybe_lexeme ≡ true
unfolding is_inner
token-inner (Kind token_kind) None h e = absurd (true≢false e)
token-inner (Kind token_kind) (Some x) h e = ap not (not-end x.kind token_kind e h)
token-inner (Keyword this_kind) None h e = absurd (true≢false e)
token-inner (Keyword this_kind) (Some x) h e = ap not (not-end x.kind token.Name (sym (and_parts _ _ (sym e)).0) refl)
token-inner (Or token_test other_test) maybe_lexeme h e = elim (either (fits token_test maybe_lexeme)) [
  | inl y ↦ token-inner token_test maybe_lexeme (and-l _ _ h) (sym y)
  | inr y ↦ token-inner other_test maybe_lexeme (and-r _ _ h)
      (e ∙ ap (λ (b : Bool). b || fits other_test maybe_lexeme) y)
]

pub test-inner : (test : Test) (state : State) → tells_inner test ≡ true → true ≡ holds test state
    → is_inner state.current ≡ true
unfolding holds is_inner
test-inner (Here token_test) state h e = token-inner token_test state.current h e
test-inner Ready state h e = elim state.current as (λ o. true ≡ not (is_over o) → is_inner o ≡ true) [
  | None ↦ λ e'. absurd (true≢false e')
  | Some x ↦ λ e'. sym e'
] e
test-inner (Both test other_test) state h e = elim (or-c _ _ h) [
  | inl y ↦ test-inner test state y (sym (and_parts _ _ (sym e)).0)
  | inr y ↦ test-inner other_test state y (sym (and_parts _ _ (sym e)).1)
]
test-inner _ state h e = absurd cc

pub inner-present : (maybe_lexeme : Option Lexeme) → is_inner maybe_lexeme ≡ true → is_some maybe_lexeme ≡ true
unfolding is_inner
inner-present None h = h
inner-present (Some x) h = refl

-- ---- what a run keeps

-- While the grammar's reports are taken, the highest nesting is at most the limit.
record Held (current : Current) (before state : State) (these_trees : TreesWithSources) : Type 0 where
  stood : NowOrNone state.current state.items
  bounded : state.accepts ≡ true → state.high ≤ state.limit
  token : state.accepts ≡ true → known current state.current ≡ true

forget : (current : Current) (before state s : State) (these_trees more_trees : TreesWithSources)
    → Held current before s these_trees
    → Held unknown state s more_trees
forget current before state s these_trees more_trees held =
    record { stood = held.stood; bounded = held.bounded; token = λ y. refl }

-- a token that is not the end is followed by another one, or the token limit is met
next-present : (lexeme : Lexeme) (state later : State) → NowOrNone (Some lexeme) later.items
    → is_inner (Some lexeme) ≡ true
    → (read_on later.items later).accepts ≡ true → is_some (read_on later.items later).current ≡ true
unfolding is_inner
next-present lexeme state later now_or_none i y =
    let r = reading later.items later in
    let ends : EndsWell later.items =
    subst (λ (b : Bool). choose b (later.items ≡ []) (EndsWell later.items)) (not-c _ i) now_or_none.1 in
    elim (either (is_some (read_on later.items later).current))
    [ inl z ↦ z | inr z ↦ absurd (cut-off r ends (sym (found r).next ∙ not-some _ z) y) ]

module _ (own : SyntaxKind) (current : Current) (before state : State) (these_trees : TreesWithSources)
    (lexeme : Lexeme) (e : state.current ≡ Some lexeme)
    (held : Held current before state these_trees) where
  abbrev after : State
  after = moved own state (Some lexeme)

  abbrev unread : State
  unread = moved_on own lexeme (flush state)

  untouched : (after.high ≡ state.high) × (after.limit ≡ state.limit)
  unfolding flush
  untouched = let u = read-untouched state.items unread in (u.high, u.limit)

  followed : (this_current : Current) → current ≡ this_current → after.accepts ≡ true → state.accepts ≡ true
      → known (after_token this_current) after.current ≡ true
  unfolding flush
  followed unknown i y z = refl
  followed present i y z = refl
  followed inner i y z =
      let now : is_inner (Some lexeme) ≡ true = subst (λ (o : Option Lexeme). is_inner o ≡ true) e
      (subst (λ (c : Current). known c state.current ≡ true) i (held.token z)) in
      next-present lexeme state unread (subst (λ (o : Option Lexeme). NowOrNone o state.items) e held.stood) now y

  moved-held : (g : TreesWithSources) → Reports state after → Held (after_token current) before after g
  unfolding flush
  moved-held g reports = record {
    stood = now-along.moves own lexeme (flush state) e refl (now-along.flushes state held.stood);
    bounded = λ y. let i = held.bounded (reports.keeps y) in let j = untouched.0 in let l = untouched.1 in
        omega (arith, i, j, l);
    token = λ y. followed current refl y (reports.keeps y);
  }

noted-held : (message : Message) (current : Current) (before state : State) (these_trees : TreesWithSources)
    → Held current before state these_trees
    → Held current before (note message state) these_trees
noted-held message current before state these_trees held =
    after-note (λ (t : State). Held current before t these_trees) message state
    (λ errors. record { stood = held.stood; bounded = held.bounded; token = held.token })

-- where a token is certain, the limit is reported
limit-held : (current : Current) (before state : State) (these_trees : TreesWithSources) → is_known current ≡ true
    → Held current before state these_trees
    → Held current before (too_deep state) these_trees
unfolding too_deep
limit-held current before state these_trees i held = on state.current refl
  where
    some : (c : Current) (maybe_lexeme : Option Lexeme) → is_known c ≡ true → known c maybe_lexeme ≡ true
        → is_some maybe_lexeme ≡ true
    some unknown maybe_lexeme i j = false-true refl i
    some present maybe_lexeme i j = j
    some inner maybe_lexeme i j = inner-present maybe_lexeme j

    no-report : state.current ≡ None → state.accepts ≡ true → ⊥
    no-report e y = false-true refl
        (subst (λ (maybe_lexeme : Option Lexeme). is_some maybe_lexeme ≡ true) e
        (some current state.current i (held.token y)))

    on : (maybe_lexeme : Option Lexeme) → state.current ≡ maybe_lexeme
        → Held current before (limited_at (deepened state) maybe_lexeme) these_trees
    on None e = record {
      stood = held.stood;
      bounded = λ y. absurd (no-report e y);
      token = λ y. absurd (no-report e y);
    }
    on (Some x) e = elim state.accepts as (λ v. Held current before (record
        (if v then record (deepened state) { errors = state.errors ++ recursion_limit_report x ∷ [] } else deepened
        state) { accepts = false }) these_trees) [
          | true ↦ record { stood = held.stood; bounded = λ y. false-true refl y; token = λ y. false-true refl y }
          | false ↦ record { stood = held.stood; bounded = λ y. false-true refl y; token = λ y. false-true refl y }
        ]

passed : (test : Test) (current : Current) (before state : State) (these_trees : TreesWithSources)
    → true ≡ holds test state
    → Held current before state these_trees → Held (cond (tells_inner test) inner current) before state these_trees
passed test current before state these_trees e held = elim (either (tells_inner test)) [
  | inl y ↦ rw y (record { stood = held.stood; bounded = held.bounded; token = λ z. test-inner test state y e })
  | inr y ↦ rw y held
]

no-token : (current : Current) (before state : State) (these_trees : TreesWithSources)
    → Held current before state these_trees
    → Held (after_token current) before state these_trees
no-token current before state these_trees held =
    record { stood = held.stood; bounded = held.bounded; token = λ y. on current (held.token y) }
  where
    on : (c : Current) → known c state.current ≡ true → known (after_token c) state.current ≡ true
    on unknown i = refl
    on present i = refl
    on inner i = inner-present state.current i

opened-held : (node : Node) (current : Current) (before state : State) (these_trees : TreesWithSources)
    → not (begins_level node) or same_inner current ≡ true
    → Held current before state these_trees
    → Held (cond (begins_level node) inner unknown) (opened (kind_of node) state)
    (opened (kind_of node) state) trees.none
unfolding opened flush
opened-held node current before state these_trees c held = elim (either (begins_level node)) [
  | inl y ↦ rw y (record {
    stood = held.stood;
    bounded = held.bounded;
    token = λ z. on current (implies _ _ c y) (held.token z);
  })
  | inr y ↦ rw y (record { stood = held.stood; bounded = held.bounded; token = λ z. refl })
]
  where
    on : (c : Current) → same_inner c ≡ true → known c state.current ≡ true → is_inner state.current ≡ true
    on unknown i j = false-true refl i
    on present i j = false-true refl i
    on inner i j = j

sound : Sound limit_check Held
unfolding limit_check flush opened closed wrapped_from enter leave is_deep
sound = record {
  leaf = λ own a k b s f x e c h g. (
    after_token a,
    c,
    moved-held own a b s f x e h
        (append f (after_pending s (trees.leaf (trees.token x) own trees.none))) g.reports,
  );
  no_leaf = λ own a k b s f e c h. (after_token a, c, no-token a b s f h);
  report = noted-held;
  limit = λ a k b s f d c h. (a, and-r _ _ c, limit-held a b s f (and-l _ _ c) h);
  passes = λ q a x y b s f e c h. (cond (tells_inner q) inner a, and-l _ _ c, passed q a b s f e h);
  fails = λ q a x y b s f e c h. (a, and-r _ _ c, h);
  turn = λ a b s f h. forget a b b s f f h;
  settles = λ a. refl;
  keeps = λ a c b s f e h. forget c b b s f f h;
  opens = λ n a b s f c h. opened-held n a b s f c h;
  closes = λ j a e k b s u f g c d h i
      l. (unknown, d, record { stood = i.stood; bounded = i.bounded; token = λ y. refl });
  inlines = λ n a b s f c h. false-true refl c;
  inlined = λ n a e b s u f g c h i. false-true refl c;
  enters = λ a k b s f w c h. (
    a,
    c,
    record {
      stood = h.stood;
      bounded = λ y. (let i = h.bounded y in let d = leb-false s.limit s.depth (sym w) in
          omega (arith, i, d));
      token = h.token;
    },
  );
  leaves = λ a k b s f c h. (a, c, record { stood = h.stood; bounded = h.bounded; token = h.token });
  types = λ a b s f h. record { stood = h.stood; bounded = h.bounded; token = h.token };
  plain = λ a c k b s u f g p h i l. (c, p, record { stood = i.stood; bounded = i.bounded; token = i.token });
  wraps = λ c k s u g p i l. (c, p, record { stood = i.stood; bounded = i.bounded; token = i.token });
  nodes = λ n. (node-passes n).limits;
}

-- Where the highest nesting is more than the limit, a limit is reported: the recursion limit, or the token limit before
-- it.
pub limit-reported : (max_depth : ℕ) (xs : List Answer) (state : State) → EndsWell xs
    → Runs (Call Document) (begun xs max_depth kind.DOCUMENT) state
    → state.limit < state.high → Limited state.errors
limit-reported max_depth xs state en run more =
    let later : State = fresh xs max_depth kind.DOCUMENT in
    let before : State = begun xs max_depth kind.DOCUMENT in
    let none-asked : before.high ≡ 0 = (read-untouched xs later).high in
    let (f, a, e, h, g, w) =
    walked_whole limit_check Held sound xs max_depth kind.DOCUMENT unknown always run document_passes.limits
    (record {
      stood = reading-now (reading xs later) en;
      bounded = λ y. omega (arith, none-asked);
      token = λ y. refl;
    }) in
    elim (taken-or-limited xs max_depth kind.DOCUMENT state g.reports)
    [ inl y ↦ absurd (over (h.bounded y)) | inr l ↦ l ]
  where
    over : state.high ≤ state.limit → ⊥
    over i = omega (arith, i, more)

-- the first token is there, or the token limit is met before it
first-known : (max_depth : ℕ) (xs : List Answer) (this_kind : SyntaxKind) → EndsWell xs
    → (begun xs max_depth this_kind).accepts ≡ true
    → known present (begun xs max_depth this_kind).current ≡ true
first-known max_depth xs this_kind en y =
    let o : State = fresh xs max_depth this_kind in
    there (begun xs max_depth this_kind).current
    (λ e. cut-off (reading xs o) en (sym (found (reading xs o)).next ∙ e) y)
  where
    there : (o : Option Lexeme) → (o ≡ None → ⊥) → is_some o ≡ true
    there None h = absurd (h refl)
    there (Some t) h = refl

-- the same of a root of another kind
pub root-limited : {rule : Rule} (max_depth : ℕ) (xs : List Answer) (this_kind : SyntaxKind) (state : State)
    → EndsWell xs
    → walk limit_check rules_deep rule present always ≡ true → Runs rule (flush (begun xs max_depth this_kind)) state
    → state.limit < state.high
    → Limited state.errors
unfolding flush
root-limited max_depth xs this_kind state en check run more =
    let later : State = fresh xs max_depth this_kind in
    let before : State = begun xs max_depth this_kind in
    let none-asked : before.high ≡ 0 = (read-untouched xs later).high in
    let (f, a, e, h, g) = walked_root limit_check Held sound xs max_depth this_kind present always run check
    (record {
      stood = reading-now (reading xs later) en;
      bounded = λ y. omega (arith, none-asked);
      token = first-known max_depth xs this_kind en;
    }) in
    let p = reports-then later before state (read-reports (reading xs later)) g.reports in
    elim (either state.accepts) [
      | inl y ↦ absurd (over (h.bounded y))
      | inr y ↦ (let l = p.limited refl y in (l.0, l.1, subst (λ (z : List Report). Has z l.0) (sym p.errors) l.2))
    ]
  where
    over : state.high ≤ state.limit → ⊥
    over i = omega (arith, i, more)
