-- Tokens that become ERROR leaves: where no limit was reported, each has a report with its text and index, and it is a
-- child of the root, or of a LIST_VALUE and not `]`, or its node's only one.
--
-- The letters in a record `Sound` are those of `Walk`.
use Rattle.std.proofs.Common.{◌≡◌, ℕ, ◌+◌, ◌≤◌, Bool, true, false, cond, not, List, [], ◌∷◌, ◌++◌, Option, Some, None}
use Rattle.std.proofs.Common.{refl, sym, ◌∙◌, subst, inl, inr, arith, true≢false}
use Rattle.std.proofs.lemmas.Bool.{and_parts}
use Rattle.std.proofs.lemmas.Option.{none-some}
use Rattle.std.specs.Prelude.{⊤}
use Rattle.lexical_grammar.specs.Answers.{Answer, is_end}
use Rattle.lexical_grammar.specs.declared.TokenKind.TheVariants as token_kind
use Rattle.document_grammar.proofs.Booleans.{false-true, and-l, and-r, or-c, not-c, not-some, either}
use Rattle.document_grammar.specs.Booleans.{◌and◌, ◌or◌}
use Rattle.document_grammar.specs.declared.kind.SyntaxKind.{SyntaxKind}
use Rattle.document_grammar.specs.declared.kind.SyntaxKind.TheVariants as kind
use Rattle.parser_rules.proofs.NodeChecks.{node-passes, document_passes}
use Rattle.parser_rules.proofs.leaves.LeafCheck.{is_error}
use Rattle.parser_rules.proofs.recovery.RecoveryCheck.{is_list, excludes, asks_next, Room, any_token, no_bracket}
use Rattle.parser_rules.proofs.recovery.RecoveryCheck.{one_token, no_token, same_room, room_of, Popping, unknown, pop}
use Rattle.parser_rules.proofs.recovery.RecoveryCheck.{pop_check}
use Rattle.parser_rules.proofs.reports.NoReport.{Now, EndsWell, choose, ignored-end, NowOrNone, reading-now, now-along}
use Rattle.parser_rules.proofs.runs.Reading.{Reading, stops, cuts, bad_text, waits, shows, reading}
use Rattle.parser_rules.proofs.runs.Reporting.{after-note, after-too-deep}
use Rattle.parser_rules.proofs.runs.TreesWithSources.{Source, token, aside, TreesWithSources, none, leaf, node, append}
use Rattle.parser_rules.proofs.runs.TreesWithSources.{append-none, erase, flat, set_aside, now_of, sources, moved_on}
use Rattle.parser_rules.proofs.runs.TreesWithSources.{has-more, Has, Limited, Reports, read-reports, taken-or-limited}
use Rattle.parser_rules.proofs.runs.TreesWithSources.{Grown, grown-note, grown-deep}
use Rattle.parser_rules.proofs.runs.Walk.{after_pending, always, Goes, Sound, walked_whole}
use Rattle.parser_rules.specs.Nodes.{kind_of, Document}
use Rattle.parser_rules.specs.RuleLanguage.{Kind, Test, Here, HasNext, Not, Both, holds, Call}
use Rattle.parser_rules.specs.Runs.{Runs}
use Rattle.parser_rules.specs.State.{State, Lexeme, PendingToken, Report, fault_report, second, add_all, flush, opened}
use Rattle.parser_rules.specs.State.{closed, wrapped_from, moved, noted, note, too_deep, enter, leave, is_at, fresh}
use Rattle.parser_rules.specs.State.{begun}
use Rattle.parser_rules.specs.declared.message.Message.{Message}

-- ---- popped tokens

abbrev pub lexeme_of : Source → Option Lexeme
lexeme_of (token lexeme) = Some lexeme
lexeme_of (aside pending_token) = None

abbrev pub popped : Source → SyntaxKind → Bool
popped (token lexeme) this_kind = is_error this_kind and not (is_end lexeme.kind)
popped (aside pending_token) this_kind = false

-- how many of the trees are popped tokens
abbrev pub pops_of : TreesWithSources → ℕ
pops_of none = 0
pops_of (leaf source this_kind rest) = cond (popped source this_kind) 1 0 + pops_of rest
pops_of (node this_kind kids rest) = pops_of rest

-- none of them is `]`
abbrev pub NoBracket : TreesWithSources → Type 0
NoBracket none = ⊤
NoBracket (leaf source this_kind rest) =
    (popped source this_kind ≡ true → is_at token_kind.RBracket (lexeme_of source) ≡ false) × NoBracket rest
NoBracket (node this_kind kids rest) = NoBracket rest

-- the token has a report
abbrev pub Reported_at : List Report → Option Lexeme → Type 0
Reported_at errors None = ⊤
Reported_at errors (Some x) = (message : Message) × Has errors (fault_report message x)

abbrev pub Allowed : SyntaxKind → TreesWithSources → Type 0
Allowed this_kind kids = choose (is_list this_kind) (NoBracket kids) (pops_of kids ≤ 1)

-- each popped token has its report, and is where one may be
abbrev pub PoppedReported : List Report → TreesWithSources → Type 0
PoppedReported errors none = ⊤
PoppedReported errors (leaf source this_kind rest) =
    (popped source this_kind ≡ true → Reported_at errors (lexeme_of source)) × PoppedReported errors rest
PoppedReported errors (node this_kind kids rest) =
    Allowed this_kind kids × PoppedReported errors kids × PoppedReported errors rest

reported-more : (errors more : List Report) (found : Option Lexeme) → Reported_at errors found
    → Reported_at (errors ++ more) found
reported-more errors more None reported_at = tt
reported-more errors more (Some x) reported_at =
    (reported_at.0, has-more errors more (fault_report reported_at.0 x) reported_at.1)

popped-more : (errors more : List Report) (trees : TreesWithSources) → PoppedReported errors trees
    → PoppedReported (errors ++ more) trees
popped-more errors more none popped_reported = tt
popped-more errors more (leaf source this_kind rest) popped_reported = (
  (λ z. reported-more errors more (lexeme_of source) (popped_reported.0 z)),
  popped-more errors more rest popped_reported.1,
)
popped-more errors more (node this_kind kids rest) popped_reported = (
  popped_reported.0,
  popped-more errors more kids popped_reported.1,
  popped-more errors more rest popped_reported.2,
)

popped-append : (errors : List Report) (trees more_trees : TreesWithSources) → PoppedReported errors trees
    → PoppedReported errors more_trees
    → PoppedReported errors (append trees more_trees)
popped-append errors none more_trees popped_reported second_popped_reported = second_popped_reported
popped-append errors (leaf source this_kind rest) more_trees popped_reported second_popped_reported =
    (popped_reported.0, popped-append errors rest more_trees popped_reported.1 second_popped_reported)
popped-append errors (node this_kind kids rest) more_trees popped_reported second_popped_reported = (
  popped_reported.0,
  popped_reported.1,
  popped-append errors rest more_trees popped_reported.2 second_popped_reported,
)

popped-aside : (errors : List Report) (parts : List PendingToken) → PoppedReported errors (set_aside parts)
popped-aside errors [] = tt
popped-aside errors (pending_token ∷ parts) = ((λ z. false-true refl z), popped-aside errors parts)

pops-append : (trees more_trees : TreesWithSources)
    → pops_of (append trees more_trees) ≡ pops_of trees + pops_of more_trees
pops-append none more_trees = omega arith
pops-append (leaf source this_kind rest) more_trees = let e = pops-append rest more_trees in omega (arith, e)
pops-append (node this_kind kids rest) more_trees = pops-append rest more_trees

pops-aside : (parts : List PendingToken) → pops_of (set_aside parts) ≡ 0
pops-aside [] = refl
pops-aside (pending_token ∷ parts) = let e = pops-aside parts in omega (arith, e)

pops-after : (state : State) (trees : TreesWithSources) → pops_of (after_pending state trees) ≡ pops_of trees
pops-after state trees = let b = pops-append (set_aside state.pending) trees in let c = pops-aside state.pending in
    omega (arith, b, c)

bracket-append : (trees more_trees : TreesWithSources) → NoBracket trees → NoBracket more_trees
    → NoBracket (append trees more_trees)
bracket-append none more_trees a b = b
bracket-append (leaf source this_kind rest) more_trees a b = (a.0, bracket-append rest more_trees a.1 b)
bracket-append (node this_kind kids rest) more_trees a b = bracket-append rest more_trees a b

-- where none is popped, no `]` is
none-bracket : (trees : TreesWithSources) → pops_of trees ≡ 0 → NoBracket trees
none-bracket none e = tt
none-bracket (leaf source this_kind rest) e = on (popped source this_kind) refl e (λ z. none-bracket rest z)
  where
    on : (b : Bool) → popped source this_kind ≡ b → cond b 1 0 + pops_of rest ≡ 0 → (pops_of rest ≡ 0 → NoBracket rest)
        → (popped source this_kind ≡ true → is_at token_kind.RBracket (lexeme_of source) ≡ false) × NoBracket rest
    on true p e more = absurd (omega (arith, e))
    on false p e more = ((λ z. false-true p z), more (omega (arith, e)))
none-bracket (node this_kind kids rest) e = none-bracket rest e

-- ---- the room that is left

abbrev Roomed : Room → TreesWithSources → Type 0
Roomed any_token trees = ⊤
Roomed no_bracket trees = NoBracket trees
Roomed one_token trees = pops_of trees ≡ 0
Roomed no_token trees = pops_of trees ≤ 1

roomed-none : (room : Room) → Roomed room none
roomed-none any_token = tt
roomed-none no_bracket = tt
roomed-none one_token = refl
roomed-none no_token = omega arith

-- nothing is popped
roomed-still : (room : Room) (state : State) (trees more_trees : TreesWithSources)
    → pops_of more_trees ≡ 0 → Roomed room trees
    → Roomed room (append trees (after_pending state more_trees))
roomed-still any_token state trees more_trees e roomed = tt
roomed-still no_bracket state trees more_trees e roomed = bracket-append trees (after_pending state more_trees) roomed
    (none-bracket (after_pending state more_trees) (pops-after state more_trees ∙ e))
roomed-still one_token state trees more_trees e roomed = let a = pops-append trees (after_pending state more_trees) in
    let b = pops-after state more_trees in
    omega (arith, a, b, e, roomed)
roomed-still no_token state trees more_trees e roomed = let a = pops-append trees (after_pending state more_trees) in
    let b = pops-after state more_trees in
    omega (arith, a, b, e, roomed)

-- the room after trees with at most one popped token, which is no `]` where it is spared, and there is none where the
-- text is cut off
roomed-pop : (popping : Popping) (room : Room) (rest : Popping → Bool) → pop popping room rest ≡ true
    → (other_room : Room) × (rest (unknown other_room) ≡ true)
    × ((trees more_trees : TreesWithSources) → pops_of more_trees ≤ 1
    → (popping.spared ≡ true → NoBracket more_trees) → (popping.cut ≡ true → pops_of more_trees ≡ 0) → Roomed room trees
    → Roomed other_room (append trees more_trees))
roomed-pop popping any_token rest h = (any_token, h, λ f g n b c i. tt)
roomed-pop popping no_bracket rest h = (no_bracket, and-r _ _ h, λ f g n b c i. bracket-append f g i (b (and-l _ _ h)))
roomed-pop popping one_token rest h = elim (either popping.cut) [
  | inl z ↦ (one_token, (rw z at h), λ f g n b c i. let e = pops-append f g in let m = c z in omega (arith, e, m, i))
  | inr z ↦ (no_token, (rw z at h), λ f g n b c i. let e = pops-append f g in omega (arith, e, n, i))
]
roomed-pop popping no_token rest h =
    (no_token, and-r _ _ h, λ f g n b c i. let e = pops-append f g in let m = c (and-l _ _ h) in omega (arith, e, m, i))

same-room : (room other_room : Room) → same_room room other_room ≡ true → room ≡ other_room
same-room any_token any_token h = refl
same-room no_bracket no_bracket h = refl
same-room one_token one_token h = refl
same-room no_token no_token h = refl
same-room _ _ h = absurd cc

-- the children of a node are allowed, where its rule keeps to its room
allowed : (this_kind : SyntaxKind) (trees : TreesWithSources) (room : Room) → room_of this_kind room ≡ true
    → Roomed room trees → Allowed this_kind trees
allowed this_kind trees any_token h roomed = false-true refl h
allowed this_kind trees no_bracket h roomed = rw h roomed
allowed this_kind trees one_token h roomed = rw (not-c _ h) (omega (arith, roomed))
allowed this_kind trees no_token h roomed = rw (not-c _ h) roomed

-- ---- where the token limit cuts the text off

-- where no significant token is left, the token limit is
pub cut-off : {xs : List Answer} {state next_state : State} → Reading xs state next_state → EndsWell xs
    → second xs ≡ None → next_state.accepts ≡ true → ⊥
unfolding second
cut-off stops ends_well h a = ends_well
cut-off (cuts this_reading) ends_well h a = true≢false (sym ((read-reports this_reading).keeps a))
cut-off (bad_text i this_reading) ends_well h a = cut-off this_reading (rw i at ends_well) (rw i at h) a
cut-off (waits {this_token_kind = this_token_kind} {own = own} i j this_reading) ends_well h a =
    cut-off this_reading (rw (i, ignored-end this_token_kind own j) at ends_well) (rw (i, j) at h) a
cut-off (shows i j) ends_well h a = absurd (none-some _ (sym (rw (i, j) at h)))

-- ---- tests

no-bracket : (test : Test) (state : State) → excludes test ≡ true → true ≡ holds test state
    → is_at token_kind.RBracket state.current ≡ false
unfolding holds ◌or◌
no-bracket (Not (Here (Kind token_kind.RBracket))) state e h = not-c (is_at token_kind.RBracket state.current) (sym h)
no-bracket (Both test other_test) state e h = let b = and_parts (holds test state) (holds other_test state) (sym h) in
    elim (or-c _ _ e) [ inl i ↦ no-bracket test state i (sym b.0) | inr i ↦ no-bracket other_test state i (sym b.1) ]
no-bracket _ state e h = false-true refl e

none-next : (test : Test) (state : State) → asks_next test ≡ true → false ≡ holds test state → second state.items ≡ None
unfolding holds
none-next HasNext state e h = not-some (second state.items) (sym h)
none-next _ state e h = false-true refl e

-- ---- runs

abbrev Right : Room → State → TreesWithSources → Type 0
Right room state trees = state.accepts ≡ true → PoppedReported state.errors trees × Roomed room trees

abbrev Held : Popping → State → State → TreesWithSources → Type 0
Held popping before state trees = record {
  stood : NowOrNone state.current state.items;
  told : popping.told ≡ true → state.accepts ≡ true → Reported_at state.errors state.current;
  cut : popping.cut ≡ true → second state.items ≡ None;
  spared : popping.spared ≡ true → is_at token_kind.RBracket state.current ≡ false;
  right : Right popping.room state trees;
}

held : (room : Room) (before state : State) (trees : TreesWithSources) → NowOrNone state.current state.items
    → Right room state trees
    → Held (unknown room) before state trees
held room before state trees st h = record {
  stood = st;
  told = λ z. false-true refl z;
  cut = λ z. false-true refl z;
  spared = λ z. false-true refl z;
  right = h;
}

popped-on : (state next_state : State) (trees : TreesWithSources) → Reports state next_state
    → PoppedReported state.errors trees
    → PoppedReported next_state.errors trees
popped-on state next_state trees reports popped_reported =
    subst (λ (e : List Report). PoppedReported e trees) (sym reports.errors)
    (popped-more state.errors reports.more trees popped_reported)

right-on : (room : Room) (state next_state : State) (trees : TreesWithSources) → Reports state next_state
    → Right room state trees → Right room next_state trees
right-on room state next_state trees reports right y = let i = right (reports.keeps y) in
    (popped-on state next_state trees reports i.0, i.1)

-- trees are added after the waiting leaves
right-grows : (room other_room : Room) (state next_state : State) (trees more_trees : TreesWithSources)
    → Reports state next_state → Right room state trees
    → (next_state.accepts ≡ true → PoppedReported next_state.errors more_trees)
    → (next_state.accepts ≡ true → Roomed room trees
    → Roomed other_room (append trees (after_pending state more_trees)))
    → Right other_room next_state (append trees (after_pending state more_trees))
right-grows room other_room state next_state trees more_trees reports right i j y =
    let k = right (reports.keeps y) in (
      popped-append next_state.errors trees (after_pending state more_trees)
          (popped-on state next_state trees reports k.0)
          (popped-append next_state.errors (set_aside state.pending) more_trees
          (popped-aside next_state.errors state.pending) (i y)),
      j y k.1,
    )

noted-at : (message : Message) (state : State) → state.accepts ≡ true
    → Reported_at (note message state).errors state.current
unfolding note
noted-at message state a = at state.current
  where
    at : (found : Option Lexeme) → Reported_at (noted message state found).errors found
    at None = tt
    at (Some x) = (message, rw a (record { before = state.errors; after = []; split = refl }))

module _ (own : SyntaxKind) (popping : Popping) (rest : Popping → Bool) (b state : State)
    (trees : TreesWithSources) (lexeme : Lexeme)
    (e : state.current ≡ Some lexeme) (this_held : Held popping b state trees) where
  abbrev one : TreesWithSources
  one = leaf (token lexeme) own none

  abbrev after : State
  after = moved own state (Some lexeme)

  -- where the token limit cuts the text off after it, the token is the end
  not-popped : popping.cut ≡ true → after.accepts ≡ true → popped (token lexeme) own ≡ false
  unfolding flush
  not-popped c y = elim (either (popped (token lexeme) own)) [
    | inl p ↦ (
        let now : Now (Some lexeme) state.items =
        subst (λ (o : Option Lexeme). NowOrNone o state.items) e this_held.stood in
        absurd (cut-off (reading state.items (moved_on own lexeme (flush state)))
        (subst (λ (b : Bool). choose b (state.items ≡ []) (EndsWell state.items)) (not-c _ (and-r _ _ p)) now.1)
        (this_held.cut c) y))
    | inr p ↦ p
  ]

  stood-after : NowOrNone after.current after.items
  unfolding flush
  stood-after = now-along.moves own lexeme (flush state) e refl (now-along.flushes state this_held.stood)

  bumped : (room : Room) → Reports state after → rest (unknown room) ≡ true
      → (is_error own ≡ true → popping.told ≡ true)
      → (after.accepts ≡ true → Roomed popping.room trees → Roomed room (append trees (after_pending state one)))
      → Goes pop_check Held rest b after (append trees (after_pending state one))
  bumped room reports i t j = (
    unknown room,
    i,
    held room b after (append trees (after_pending state one)) stood-after
        (right-grows popping.room room state after trees one reports this_held.right told j),
  )
    where
      told : after.accepts ≡ true → PoppedReported after.errors one
      told y = (
        (λ z. subst (λ (errors : List Report). Reported_at errors (Some lexeme)) (sym reports.errors)
            (reported-more state.errors reports.more (Some lexeme)
            (subst (λ (o : Option Lexeme). Reported_at state.errors o) e
            (this_held.told (t (and-l _ _ z)) (reports.keeps y))))),
        tt,
      )

  pops-one : pops_of (after_pending state one) ≡ cond (popped (token lexeme) own) 1 0 + 0
  pops-one = pops-after state one

  at-most-one : (b : Bool) → cond b 1 0 ≤ 1
  at-most-one true = omega arith
  at-most-one false = omega arith

  leaf-right : cond (is_error own) (popping.told and pop popping popping.room rest) (rest (unknown popping.room)) ≡ true
      → Grown state after (after_pending state one)
      → Goes pop_check Held rest b after (append trees (after_pending state one))
  unfolding ◌and◌
  leaf-right c grown = elim (either (is_error own)) [
    | inl i ↦ (
        let d = rw i at c in
        let r = roomed-pop popping popping.room rest (and-r _ _ d) in
        bumped r.0 grown.reports r.1 (λ z. and-l _ _ d)
        (λ y. r.2 trees (after_pending state one)
        (let m = pops-one in let l = at-most-one (popped (token lexeme) own) in omega (arith, m, l))
        (λ z. bracket-append (set_aside state.pending) one
        (none-bracket (set_aside state.pending) (pops-aside state.pending))
        ((λ _. subst (λ (o : Option Lexeme). is_at token_kind.RBracket o ≡ false) e (this_held.spared z)), tt))
        (λ z. pops-one ∙ rw (not-popped z y) refl)))
    | inr i ↦ bumped popping.room grown.reports (rw i at c) (λ z. false-true i z)
        (λ y. roomed-still popping.room state trees one (rw i refl))
  ]

-- where there is no token, none is popped
no-leaf : (own : SyntaxKind) (popping : Popping) (rest : Popping → Bool) (before state : State)
    (trees : TreesWithSources)
    → cond (is_error own) (popping.told and pop popping popping.room rest) (rest (unknown popping.room)) ≡ true
    → Held popping before state trees
    → Goes pop_check Held rest before state trees
no-leaf own popping rest before state trees c this_held = elim (either (is_error own)) [
  | inl i ↦ (
      let r = roomed-pop popping popping.room rest (and-r _ _ (rw i at c)) in (
        unknown r.0,
        r.1,
        held r.0 before state trees this_held.stood (λ y. let j = this_held.right y in
            (j.0, subst (Roomed r.0) (append-none trees) (r.2 trees none (omega arith) (λ z. tt) (λ z. refl) j.1))),
      ))
  | inr i ↦ (unknown popping.room, (rw i at c), held popping.room before state trees this_held.stood this_held.right)
]

sound : Sound pop_check Held
unfolding pop_check flush opened closed wrapped_from enter leave
sound = record {
  leaf = λ own a k b s f x e c h g. leaf-right own a k b s f x e h c g;
  no_leaf = λ own a k b s f e c h. no-leaf own a k b s f c h;
  report = λ m a b s f h. record {
    stood = after-note (λ t. NowOrNone t.current t.items) m s (λ errors. h.stood);
    told = λ z y. subst (Reported_at (note m s).errors) (after-note (λ t. s.current ≡ t.current) m s (λ errors. refl))
        (noted-at m s ((grown-note m s).reports.keeps y));
    cut = λ z. after-note (λ t. second t.items ≡ None) m s (λ errors. h.cut z);
    spared = λ z. after-note (λ t. is_at token_kind.RBracket t.current ≡ false) m s (λ errors. h.spared z);
    right = right-on a.room s (note m s) f (grown-note m s).reports h.right;
  };
  limit = λ a k b s f d c h. (
    unknown a.room,
    c,
    held a.room b (too_deep s) f (after-too-deep (λ t. NowOrNone t.current t.items) s (λ errors accepts. h.stood))
        (right-on a.room s (too_deep s) f (grown-deep s d).reports h.right),
  );
  passes = λ q a x y b s f e c h. (
    _,
    and-l _ _ c,
    record {
      stood = h.stood;
      told = h.told;
      cut = h.cut;
      spared = λ z. elim (or-c _ _ z) [ inl i ↦ h.spared i | inr i ↦ no-bracket q s i e ];
      right = h.right;
    },
  );
  fails = λ q a x y b s f e c h. (
    _,
    and-r _ _ c,
    record {
      stood = h.stood;
      told = h.told;
      cut = λ z. elim (or-c _ _ z) [ inl i ↦ h.cut i | inr i ↦ none-next q s i e ];
      spared = h.spared;
      right = h.right;
    },
  );
  turn = λ a b s f h. held a.room b s f h.stood h.right;
  settles = λ a. refl;
  keeps = λ a c b s f e h. held a.room b s f h.stood
      (subst (λ (r : Room). Right r s f) (same-room c.room a.room e) h.right);
  opens = λ n a b s f c h. held _ (opened (kind_of n) s) (opened (kind_of n) s) none h.stood (λ y. (tt, roomed-none _));
  closes = λ j a e k b s u f g c d h i l. (
    unknown a.room,
    d,
    held a.room b (closed u) _ i.stood
        (right-grows a.room a.room s (closed u) f (node j g none) l.reports h.right (λ y. let r = i.right y in
        (allowed j g e.room c r.1, r.0, tt)) (λ y r. roomed-still a.room s f (node j g none) refl r)),
  );
  inlines = λ n a b s f c h. false-true refl c;
  inlined = λ n a e b s u f g c h i. false-true refl c;
  enters = λ a k b s f w c h. (a, c, h);
  leaves = λ a k b s f c h. (a, c, h);
  types = λ a b s f h. held one_token (flush s) (flush s) none h.stood (λ y. (tt, refl));
  plain = λ a e k b s u f g c h i l.
      let r = same-room e.room one_token (and-l _ _ c) in (
        unknown a.room,
        and-r _ _ c,
        held a.room b u _ i.stood (right-grows a.room a.room s u f g l.reports h.right (λ y. (i.right y).0)
            (λ y o. roomed-still a.room s f g (subst (λ (q : Room). Roomed q g) r (i.right y).1) o)),
      );
  wraps = λ e k s u g c i l. (e, c, i);
  nodes = λ n. (node-passes n).errors;
}

-- ---- the document

-- A tree that knows its tokens: its leaves are the answers in their order, and popped tokens are reported, and only
-- where they may be.
pub record Recovery (xs : List Answer) (state : State) : Type 0 where
  pub trees : TreesWithSources
  pub tree : erase trees ≡ (add_all state.pending state.tree).here
  pub order : flat trees ++ (now_of state.current ++ sources state.items) ≡ sources xs
  pub recovers : PoppedReported state.errors trees

-- Where no limit is reported, each popped token has a report with its text and index, and is a child of the root, or of
-- a LIST_VALUE and not `]`, or its node's only popped token.
pub document-recovers : (max_depth : ℕ) (xs : List Answer) (state : State) → EndsWell xs
    → Runs (Call Document) (begun xs max_depth kind.DOCUMENT) state
    → (Limited state.errors → ⊥) → Recovery xs state
document-recovers max_depth xs state en run none-limited =
    let later : State = fresh xs max_depth kind.DOCUMENT in
    let (f, a, e, h, g, w) =
    walked_whole pop_check Held sound xs max_depth kind.DOCUMENT (unknown any_token) always run
    document_passes.errors
    (held any_token (begun xs max_depth kind.DOCUMENT) (begun xs max_depth kind.DOCUMENT) none
    (reading-now (reading xs later) en) (λ y. (tt, tt))) in
    let taken : state.accepts ≡ true =
    elim (taken-or-limited xs max_depth kind.DOCUMENT state g.reports)
    [ inl y ↦ y | inr l ↦ absurd (none-limited l) ] in
    record {
      trees = append f (set_aside state.pending);
      tree = w.tree;
      order = w.order;
      recovers = popped-append state.errors f (set_aside state.pending) (h.right taken).0
          (popped-aside state.errors state.pending);
    }
