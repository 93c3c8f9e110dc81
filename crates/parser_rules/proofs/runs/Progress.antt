-- Rules that surely take the token that is there: so loops end.
use Rattle.std.proofs.Common.{◌≡◌, ℕ, zero, suc, ltb, length, get_or, List, [], ◌∷◌, ◌<◌, Some, None, refl, sym, ◌∙◌}
use Rattle.std.proofs.Common.{ap, ap₂, subst, arith, true, false, Bool, not, ◌||◌, ◌⊎◌, inl, inr, true≢false}
use Rattle.std.proofs.lemmas.Bool.{and_parts, ltb-true}
use denote.Enum.Declared.{tag_of}
use Rattle.lexical_grammar.specs.contracts.TokenKind.{the_type}
use Rattle.lexical_grammar.specs.declared.TokenKind.{TokenKind}
use Rattle.lexical_grammar.specs.declared.TokenKind.TheVariants as token
use Rattle.document_grammar.proofs.Booleans.{either, and-i, and-l, and-r, or-l, or-r, not-c}
use Rattle.document_grammar.specs.Booleans.{◌and◌, ◌or◌}
use Rattle.document_grammar.specs.declared.kind.SyntaxKind.{SyntaxKind}
use Rattle.parser_rules.proofs.runs.Frame.{left, moved-left, fewer}
use Rattle.parser_rules.proofs.runs.Fuel.{rules_deep_for_progress}
use Rattle.parser_rules.proofs.runs.Steps.{Holds_along, along}
use Rattle.parser_rules.specs.Nodes.{kind_of, Value, NestedValue}
use Rattle.parser_rules.specs.RuleLanguage.{TokenTest, Kind, Keyword, Or, fits, Here, Ready, holds, Prim, Bump, step}
use Rattle.parser_rules.specs.RuleLanguage.{Rule, Do, Seq, When, Child, Nested, Call}
use Rattle.parser_rules.specs.Rules.{has_item, inside, body}
use Rattle.parser_rules.specs.Runs.{Runs, does, seq, yes, no, child, deeper, refused, call}
use Rattle.parser_rules.specs.State.{State, Lexeme, flush, opened, closed, moved, bump, wrapped_from, same_kind}
use Rattle.parser_rules.specs.State.{is_over, is_deep, enter, leave}
use Rattle.parser_rules.specs.declared.constness.Constness.{Constness}
use Rattle.parser_rules.specs.declared.constness.Constness.TheVariants.{Const, NotConst}

-- what is known of a token's kind
abbrev pub Kinds : Type 0
Kinds = TokenKind → Bool

-- the kinds of tokens for which the test may pass, and those for which it may fail
unfoldable pub passing : TokenTest → Kinds
passing (Kind token_kind) j = same_kind j token_kind
passing (Keyword kind) j = same_kind j token.Name
passing (Or token_test other_test) j = passing token_test j or passing other_test j

unfoldable pub failing : TokenTest → Kinds
failing (Kind token_kind) j = not (same_kind j token_kind)
failing (Keyword kind) j = true
failing (Or token_test other_test) j = failing token_test j and failing other_test j

-- the kinds in the order of their declaration
unfoldable pub token_kinds : List TokenKind
token_kinds =
    token.Whitespace
    ∷ token.Comment
    ∷ token.Bang
    ∷ token.Dollar
    ∷ token.Amp
    ∷ token.Spread
    ∷ token.Comma
    ∷ token.Colon
    ∷ token.Eq
    ∷ token.At
    ∷ token.LParen
    ∷ token.RParen
    ∷ token.LBracket
    ∷ token.RBracket
    ∷ token.LCurly
    ∷ token.RCurly
    ∷ token.Pipe
    ∷ token.Eof
    ∷ token.Name
    ∷ token.StringValue
    ∷ token.Int
    ∷ token.Float
    ∷ []

-- whether a token of the kind may still be there after the rule
unfoldable pub may_stay : ℕ → TokenKind → Rule → Bool
may_stay n token_kind (Do (Bump leaf)) = false
may_stay n token_kind (Seq rule other_rule) = may_stay n token_kind rule and may_stay n token_kind other_rule
may_stay n token_kind (When (Here token_test) rule other_rule) =
    (passing token_test token_kind and may_stay n token_kind rule)
    or (failing token_test token_kind and may_stay n token_kind other_rule)
may_stay n token_kind (When test rule other_rule) = may_stay n token_kind rule or may_stay n token_kind other_rule
may_stay (suc n) token_kind (Child node) = may_stay n token_kind (inside node)
may_stay (suc n) token_kind (Call part) = may_stay n token_kind (body part)
may_stay n token_kind _ = true

-- each kind of the list that is such a kind is taken
unfoldable pub takes_all : List TokenKind → Kinds → Rule → Bool
takes_all [] kinds rule = true
takes_all (token_kind ∷ ks) kinds rule =
    not (kinds token_kind and may_stay rules_deep_for_progress token_kind rule) and takes_all ks kinds rule

-- the rule takes the token that is there, when it is of these kinds
unfoldable pub consumes : Kinds → Rule → Bool
consumes kinds rule = takes_all token_kinds kinds rule

-- all that this test computes with
unfoldable pub consuming : Unit {0}
unfolding consumes takes_all may_stay passing failing token_kinds same_kind inside body ◌and◌ ◌or◌
consuming = tt

-- ---- a token is there

pub record IsThere (kinds : Kinds) (state : State) : Type 0 where
  pub token : Lexeme
  pub is : state.current ≡ Some token
  pub kind : kinds token.kind ≡ true

none-fits : (token_test : TokenTest) → fits token_test None ≡ false
none-fits (Kind token_kind) = refl
none-fits (Keyword kind) = refl
none-fits (Or token_test other_test) = ap₂ (λ (a b : Bool). a || b) (none-fits token_test) (none-fits other_test)

passes-kind : (token_test : TokenTest) (lexeme : Lexeme) → fits token_test (Some lexeme) ≡ true
    → passing token_test lexeme.kind ≡ true
unfolding passing
passes-kind (Kind token_kind) lexeme e = e
passes-kind (Keyword kind) lexeme e = (and_parts _ _ e).0
passes-kind (Or token_test other_test) lexeme e = elim (either (fits token_test (Some lexeme))) [
  | inl y ↦ or-l _ _ (passes-kind token_test lexeme y)
  | inr y ↦ or-r _ _ (passes-kind other_test lexeme (sym (ap (λ (b : Bool). b || fits other_test (Some lexeme)) y) ∙ e))
]

fails-kind : (token_test : TokenTest) (lexeme : Lexeme) → fits token_test (Some lexeme) ≡ false
    → failing token_test lexeme.kind ≡ true
unfolding failing
fails-kind (Kind token_kind) lexeme e = ap not e
fails-kind (Keyword kind) lexeme e = refl
fails-kind (Or token_test other_test) lexeme e = elim (either (fits token_test (Some lexeme))) [
  | inl y ↦ absurd (true≢false (sym (ap (λ (b : Bool). b || fits other_test (Some lexeme)) y) ∙ e))
  | inr y ↦ and-i (fails-kind token_test lexeme y)
      (fails-kind other_test lexeme (sym (ap (λ (b : Bool). b || fits other_test (Some lexeme)) y) ∙ e))
]

-- where the current token fits, it is there
pub here-there : (token_test : TokenTest) (state : State) → true ≡ holds (Here token_test) state
    → IsThere (passing token_test) state
unfolding holds
here-there token_test state e =
    elim state.current as (λ o. state.current ≡ o → true ≡ fits token_test o → IsThere (passing token_test) state) [
      | None ↦ λ c y. absurd (true≢false (y ∙ none-fits token_test))
      | Some x ↦ λ c y. record { token = x; is = c; kind = passes-kind token_test x (sym y) }
    ] refl e

here-passes : (token_test : TokenTest) (lexeme : Lexeme) (state : State) → state.current ≡ Some lexeme
    → true ≡ holds (Here token_test) state
    → passing token_test lexeme.kind ≡ true
unfolding holds
here-passes token_test lexeme state c e = passes-kind token_test lexeme (sym (e ∙ ap (fits token_test) c))

here-fails : (token_test : TokenTest) (lexeme : Lexeme) (state : State) → state.current ≡ Some lexeme
    → false ≡ holds (Here token_test) state
    → failing token_test lexeme.kind ≡ true
unfolding holds
here-fails token_test lexeme state c e = fails-kind token_test lexeme (sym (e ∙ ap (fits token_test) c))

abbrev pub anything : Kinds
anything j = true

pub ready-there : (state : State) → true ≡ holds Ready state → IsThere anything state
unfolding holds
ready-there state e = elim state.current as (λ o. state.current ≡ o → true ≡ not (is_over o) → IsThere anything state) [
  | None ↦ λ c y. absurd (cc)
  | Some x ↦ λ c y. record { token = x; is = c; kind = refl }
] refl e

-- where another item may start, a token is there, and the recursion limit is not reached
pub item_there : (state : State) → true ≡ holds has_item state → IsThere anything state
unfolding holds
item_there state e = ready-there state (sym (and_parts _ _ (and_parts _ _ (sym e)).0).0)

pub item-not-deep : (state : State) → true ≡ holds has_item state → false ≡ is_deep state
unfolding holds
item-not-deep state e = sym (not-c _ (and_parts _ _ (sym e)).1)

pub opened-there : (kinds : Kinds) (this_kind : SyntaxKind) (state : State) {after : State}
    → after ≡ opened this_kind state → IsThere kinds state
    → IsThere kinds after
unfolding opened flush
opened-there kinds this_kind state e is_there =
    record { token = is_there.token; is = ap (λ w. w.current) e ∙ is_there.is; kind = is_there.kind }

opened-current : (kind : SyntaxKind) (state : State) {after : State} → after ≡ opened kind state
    → after.current ≡ state.current
unfolding opened flush
opened-current kind state e = ap (λ w. w.current) e

pub opened-left : (kind : SyntaxKind) (state : State) {after : State} → after ≡ opened kind state
    → left after ≡ left state
unfolding opened flush left
opened-left kind state e = ap left e

-- ---- what takes

bump-takes : (leaf : SyntaxKind) (lexeme : Lexeme) (state : State) {after : State} → after ≡ step (Bump leaf) state
    → state.current ≡ Some lexeme
    → left after < left state
unfolding step bump flush left
bump-takes leaf lexeme state e c =
    let f = moved-left leaf lexeme (flush state) c in
    let k : left (moved leaf state state.current) ≡ left (moved leaf state (Some lexeme)) =
    ap (λ o. left (moved leaf state o)) c in
    let l = ap left e in
    omega (arith, f, k, l)

taken-at : (ks : List TokenKind) (kinds : Kinds) (rule : Rule) (n : ℕ) → takes_all ks kinds rule ≡ true → n < length ks
    → kinds (get_or ks n token.Eof) and may_stay rules_deep_for_progress (get_or ks n token.Eof) rule ≡ false
unfolding takes_all
taken-at [] kinds rule n h l = absurd (omega (arith, l))
taken-at (token_kind ∷ ks) kinds rule zero h l = not-c _ (and-l _ _ h)
taken-at (token_kind ∷ ks) kinds rule (suc n) h l = taken-at ks kinds rule n (and-r _ _ h) (omega (arith, l))

listed : (token_kind : TokenKind) → get_or token_kinds (tag_of the_type token_kind) token.Eof ≡ token_kind
unfolding token_kinds
listed token.Whitespace = refl
listed _ = refl

listed-below : (token_kind : TokenKind) → ltb (tag_of the_type token_kind) (length token_kinds) ≡ true
unfolding token_kinds
listed-below token.Whitespace = refl
listed-below _ = refl

-- a token of a kind that is taken does not stay
not-left : (kinds : Kinds) (rule : Rule) (token_kind : TokenKind) → consumes kinds rule ≡ true → kinds token_kind ≡ true
    → may_stay rules_deep_for_progress token_kind rule ≡ true → ⊥
unfolding consumes
not-left kinds rule token_kind h e m =
    let i = taken-at token_kinds kinds rule (tag_of the_type token_kind) h (ltb-true _ _ (listed-below token_kind)) in
    true≢false (sym (and-i e m)
    ∙ subst (λ (k : TokenKind). kinds k and may_stay rules_deep_for_progress k rule ≡ false) (listed token_kind) i)

-- ---- a run takes the token that is there, or leaves it there

abbrev pub Onward : State → State → Type 0
Onward state after = (left after < left state) ⊎ ((after.current ≡ state.current) × (left after ≡ left state))

onward-next : (state after later : State) → Onward state after → Onward after later → Onward state later
onward-next state after later (inl f) (inl g) = inl (omega (arith, f, g))
onward-next state after later (inl f) (inr g) = let l = g.1 in inl (omega (arith, f, l))
onward-next state after later (inr f) (inl g) = let l = f.1 in inl (omega (arith, l, g))
onward-next state after later (inr f) (inr g) = inr (g.0 ∙ f.0, g.1 ∙ f.1)

abbrev onward-along : Holds_along Onward
unfolding left flush closed enter leave wrapped_from
onward-along = record {
  same = λ s. inr (refl, refl);
  next = onward-next;
  flushes = λ s. inr (refl, refl);
  moves = λ leaf x s e w. inl (moved-left leaf x s e);
  reports = λ m x s c a. inr (refl, refl);
  limits = λ x s c a d. inr (refl, refl);
  asks = λ s. inr (refl, refl);
  nodes = λ k s u h. h;
  levels = λ s u q h. h;
  wraps = λ k t u w h l. onward-next t u w h l;
}

-- the token that was there is taken, or it stays and the rule may leave it
abbrev Stays : ℕ → Rule → Lexeme → State → State → Type 0
Stays n rule lexeme state after =
    (left after < left state)
    ⊎ ((after.current ≡ Some lexeme) × (left after ≡ left state) × (may_stay n lexeme.kind rule ≡ true))

any-rule : {rule : Rule} {state after : State} → (n : ℕ) (lexeme : Lexeme) → state.current ≡ Some lexeme
    → may_stay n lexeme.kind rule ≡ true
    → Runs rule state after → Stays n rule lexeme state after
any-rule n lexeme c m run = elim (along onward-along run) [ inl f ↦ inl f | inr g ↦ inr (g.0 ∙ c, g.1, m) ]

stays : {rule : Rule} {state after : State} → Runs rule state after → (n : ℕ) (lexeme : Lexeme)
    → state.current ≡ Some lexeme → Stays n rule lexeme state after
unfolding may_stay closed left
stays {state = state} (does {primitive = Bump leaf} k) n lexeme c = inl (bump-takes leaf lexeme state k c)
stays {state = state} (seq {rule = rule} {other_rule = other_rule} run second_run) n lexeme c =
    elim (stays run n lexeme c) [
      | inl f ↦ let g = fewer second_run in inl (omega (arith, f, g))
      | inr g ↦ elim (stays second_run n lexeme g.0) [
        | inl f ↦ let e = g.1 in inl (omega (arith, f, e))
        | inr f ↦ inr (f.0, f.1 ∙ g.1, and-i g.2 f.2)
      ]
    ]
stays {state = state} (yes {test = Here token_test} {rule = rule} {other_rule = other_rule} y run) n lexeme c =
    elim (stays run n lexeme c) [
      | inl f ↦ inl f
      | inr g ↦ inr (g.0, g.1, or-l _ _ (and-i (here-passes token_test lexeme state c y) g.2))
    ]
stays {state = state} (no {test = Here token_test} {rule = rule} {other_rule = other_rule} y run) n lexeme c =
    elim (stays run n lexeme c) [
      | inl f ↦ inl f
      | inr g ↦ inr (g.0, g.1, or-r _ _ (and-i (here-fails token_test lexeme state c y) g.2))
    ]
stays (yes {rule = rule} {other_rule = other_rule} y run) n lexeme c =
    elim (stays run n lexeme c) [
      | inl f ↦ inl f
      | inr g ↦
          inr (g.0, g.1, or-l (may_stay n lexeme.kind rule) (may_stay n lexeme.kind other_rule) g.2)
    ]
stays (no {rule = rule} {other_rule = other_rule} y run) n lexeme c = elim
    (stays run n lexeme c) [
      | inl f ↦ inl f
      | inr g ↦
          inr (g.0, g.1, or-r (may_stay n lexeme.kind rule) (may_stay n lexeme.kind other_rule) g.2)
    ]
stays {state = state} (child {node = node} {later = later} a b run) (suc n) lexeme c =
    let l = opened-left (kind_of node) state a in
    let d = ap left b in
    elim (stays run n lexeme (opened-current (kind_of node) state a ∙ c)) [
      | inl f ↦ inl (omega (arith, f, l, d))
      | inr g ↦ inr (ap (λ w. w.current) b ∙ g.0, d ∙ g.1 ∙ l, g.2)
    ]
stays (call run) (suc n) lexeme c = stays run n lexeme c
stays run n lexeme c = any-rule n lexeme c refl run

pub taken : {rule : Rule} {kinds : Kinds} {state after : State} → Runs rule state after → IsThere kinds state
    → consumes kinds rule ≡ true
    → left after < left state
taken {rule = rule} {kinds = kinds} run is_there e =
    elim (stays run rules_deep_for_progress is_there.token is_there.is) [
      | inl f ↦ f
      | inr g ↦ absurd
          (not-left kinds rule is_there.token.kind e is_there.kind g.2)
    ]

-- ---- what the code's measures ask

pub opened-takes : (kind : SyntaxKind) (state : State) {after later : State} {rule : Rule} {kinds : Kinds}
    → after ≡ opened kind state → Runs rule after later
    → IsThere kinds state → consumes kinds rule ≡ true → left later < left state
opened-takes kind state {kinds = kinds} o run is_there e =
    let f = taken run (opened-there kinds kind state o is_there) e in
    let l = opened-left kind state o in
    omega (arith, f, l)

pub entered-left : (state : State) {after : State} → after ≡ enter state → left after ≡ left state
unfolding enter left
entered-left state e = ap left e

entered-there : (kinds : Kinds) (state : State) {after : State} → after ≡ enter state
    → IsThere kinds state → IsThere kinds after
unfolding enter
entered-there kinds state e is_there =
    record { token = is_there.token; is = ap (λ w. w.current) e ∙ is_there.is; kind = is_there.kind }

-- a value one level deeper takes a token where the recursion limit is not reached
deeper-taken : {rule other_rule : Rule} {kinds : Kinds} {state after : State}
    → Runs (Nested rule other_rule) state after → false ≡ is_deep state
    → IsThere kinds state → consumes kinds rule ≡ true → left after < left state
unfolding leave left
deeper-taken {kinds = kinds} {state = state} (deeper {later = later} q e v run second_run) d is_there w =
    let f = taken run (entered-there kinds state e is_there) w in
    let g = entered-left state e in
    let l = ap left v in
    let m = fewer second_run in
    omega (arith, f, g, l, m)
deeper-taken (refused q e) d is_there w = absurd (true≢false (q ∙ sym d))

value-consumes : (constness : Constness) → consumes anything (Call (Value constness true)) ≡ true
unfolding consuming
value-consumes Const = refl
value-consumes NotConst = refl

pub item-taken : {constness : Constness} {state after : State} → Runs (Call (NestedValue constness)) state after
    → true ≡ holds has_item state
    → left after < left state
unfolding body
item-taken {constness = constness} {state = state} (call run) e =
    deeper-taken run (item-not-deep state e) (item_there state e) (value-consumes constness)

pub flushed-left : (state : State) {after : State} → after ≡ flush state → left after ≡ left state
unfolding flush left
flushed-left state e = ap left e
