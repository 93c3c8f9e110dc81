-- One walk over the rules for all checks of them: what is known at each place of a rule, and what a run that adds trees
-- makes of it.
--
-- `K` is the type of the knowledge at a place, `n` the fuel of a walk, and `h` says that the check holds. Other modules
-- fill the record `Sound` with lambdas, whose arguments have a letter each: `a`, `c` and `e` are known, `k` is the
-- check of the rest, `b` the state from which trees are counted, `s` and `u` are the states before and after a part,
-- `f` and `g` the trees that were added until each.
use Rattle.std.proofs.Common.{◌≡◌, ℕ, zero, suc, Bool, true, false, cond, List, Some, None, refl, sym, ap, ◌∙◌, subst}
use Rattle.std.proofs.Common.{inl, inr}
use Rattle.lexical_grammar.specs.Answers.{Answer}
use Rattle.lexical_grammar.specs.declared.TokenKind.TheVariants as token_kind
use Rattle.document_grammar.proofs.Booleans.{false-true, and-l, and-r, either}
use Rattle.document_grammar.specs.Booleans.{◌and◌}
use Rattle.document_grammar.specs.Builds.{built_count}
use Rattle.document_grammar.specs.declared.kind.SyntaxKind.{SyntaxKind}
use Rattle.document_grammar.specs.declared.kind.SyntaxKind.TheVariants as kind
use Rattle.parser_rules.proofs.runs.Fuel.{rules_deep}
use Rattle.parser_rules.proofs.runs.TreesWithSources.{TreesWithSources, none, leaf, node, append, append-none, token}
use Rattle.parser_rules.proofs.runs.TreesWithSources.{set_aside, Grown, grown-none, grown-then, grown-flush, grown-leaf}
use Rattle.parser_rules.proofs.runs.TreesWithSources.{grown-note, grown-deep, grown-node, grown-wrap, Whole, whole}
use Rattle.parser_rules.specs.Nodes.{Node, kind_of}
use Rattle.parser_rules.specs.RuleLanguage.{Test, At, holds, Prim, Bump, Note, step, Rule, Skip, Do, Seq, When, While}
use Rattle.parser_rules.specs.RuleLanguage.{Child, TooDeep, Nested, Call, Typed}
use Rattle.parser_rules.specs.Rules.{inside, body}
use Rattle.parser_rules.specs.Runs.{Runs, skip, does, seq, yes, no, done, again, child, limited, deeper, refused, call}
use Rattle.parser_rules.specs.Runs.{plain, wrapped}
use Rattle.parser_rules.specs.State.{State, Lexeme, flush, opened, closed, wrapped_from, moved, bump, note, is_deep}
use Rattle.parser_rules.specs.State.{enter, leave, too_deep, begun}
use Rattle.parser_rules.specs.declared.message.Message.{Message}

-- What may be known at a place, and how each step of a rule changes it. A step also has the check of the rest after it.
pub record Domain (K : Type 0) : Type 0 where
  -- a token becomes a leaf; a report is made; the report of the recursion limit; a test passes, or fails
  pub leaf : SyntaxKind → K → (K → Bool) → Bool
  pub report : K → K
  pub limit : K → (K → Bool) → Bool
  pub test : Test → K → (K → Bool) → (K → Bool) → Bool
  -- what is known at each turn of a loop, and whether a turn keeps it
  pub turn : K → K
  pub keeps : K → K → Bool
  -- a node begins and ends, and what is then known in its parent; or its rule is walked in the parent
  pub opens : Node → K → Bool
  pub begins : Node → K
  pub ends : SyntaxKind → K → Bool
  pub after : SyntaxKind → K → (K → Bool) → Bool
  pub inlines : Node → Bool
  -- a level is entered, and left
  pub enters : K → (K → Bool) → Bool
  pub leaves : K → (K → Bool) → Bool
  -- a type begins, and ends without a `!`, or is wrapped before it
  pub types : K → K
  pub plain : K → K → (K → Bool) → Bool
  pub wraps : K → (K → Bool) → Bool

abbrev pub always : {K : Type 0} → K → Bool
always known = true

-- where no step changes what is known
abbrev pub steady : {K : Type 0} → K → Domain K
steady known = record {
  leaf = λ j b k. k b;
  report = λ b. b;
  limit = λ b k. k b;
  test = λ q b f g. f b and g b;
  turn = λ b. b;
  keeps = λ b c. false;
  opens = λ n b. true;
  begins = λ n. known;
  ends = λ j b. true;
  after = λ j b k. k b;
  inlines = λ n. false;
  enters = λ b k. k b;
  leaves = λ b k. k b;
  types = λ b. b;
  plain = λ b c k. k c;
  wraps = λ b k. k b;
}

unfoldable pub walk : {K : Type 0} → Domain K → ℕ → Rule → K → (K → Bool) → Bool
walk domain n Skip known rest = rest known
walk domain n (Do (Bump own)) known rest = domain.leaf own known rest
walk domain n (Do (Note message)) known rest = rest (domain.report known)
walk domain n (Seq rule other_rule) known rest = walk domain n rule known (λ b. walk domain n other_rule b rest)
walk domain n (When test rule other_rule) known rest =
    domain.test test known (λ b. walk domain n rule b rest) (λ b. walk domain n other_rule b rest)
walk domain n (While test rule) known rest =
    domain.test test (domain.turn known) (λ b. walk domain n rule b (λ c. domain.keeps c (domain.turn known))) rest
walk domain zero (Child this_node) known rest = false
walk domain (suc n) (Child this_node) known rest =
    cond (domain.inlines this_node) (walk domain n (inside this_node) known rest)
    (domain.opens this_node known and domain.after (kind_of this_node) known rest)
walk domain n TooDeep known rest = domain.limit known rest
walk domain n (Nested rule other_rule) known rest = domain.limit known rest
    and domain.enters known (λ b. walk domain n rule b (λ c. domain.leaves c (λ e. walk domain n other_rule e rest)))
walk domain zero (Call part) known rest = false
walk domain (suc n) (Call part) known rest = walk domain n (body part) known rest
walk domain n (Typed rule) known rest =
    walk domain n rule (domain.types known) (λ b. domain.test (At token_kind.Bang) b
    (λ c. domain.wraps c (λ e. domain.leaf kind.BANG e
    (λ f. domain.ends kind.NON_NULL_TYPE f and domain.after kind.NON_NULL_TYPE known rest)))
    (λ c. domain.plain known c rest))

-- the check of one kind of node, with so much fuel
abbrev pub checks_with : {K : Type 0} → ℕ → Domain K → Node → Bool
checks_with fuel domain this_node =
    walk domain fuel (inside this_node) (domain.begins this_node) (domain.ends (kind_of this_node))

abbrev pub checks : {K : Type 0} → Domain K → Node → Bool
checks domain this_node = checks_with rules_deep domain this_node

-- trees after the waiting leaves
abbrev pub after_pending : State → TreesWithSources → TreesWithSources
after_pending state trees = append (set_aside state.pending) trees

-- `Held known before state trees`: `known` is known in a state `state` that comes of `before` and has the trees `trees`
-- more
module _ {K : Type 0} (domain : Domain K) (Held : K → State → State → TreesWithSources → Type 0) where
  abbrev pub Goes : (K → Bool) → State → State → TreesWithSources → Type 0
  Goes rest before after trees = (known : K) × (rest known ≡ true) × Held known before after trees

  -- each step says what is right
  pub record Sound : Type 0 where
    pub leaf : (own : SyntaxKind) (known : K) (rest : K → Bool) (before state : State)
        (trees : TreesWithSources) (lexeme : Lexeme)
        → state.current ≡ Some lexeme → domain.leaf own known rest ≡ true → Held known before state trees
        → Grown state (moved own state (Some lexeme)) (after_pending state (leaf (token lexeme) own none))
        → Goes rest before (moved own state (Some lexeme))
        (append trees (after_pending state (leaf (token lexeme) own none)))
    pub no_leaf : (own : SyntaxKind) (known : K) (rest : K → Bool) (before state : State) (trees : TreesWithSources)
        → state.current ≡ None
        → domain.leaf own known rest ≡ true → Held known before state trees → Goes rest before state trees
    pub report : (message : Message) (known : K) (before state : State) (trees : TreesWithSources)
        → Held known before state trees
        → Held (domain.report known) before (note message state) trees
    pub limit : (known : K) (rest : K → Bool) (before state : State) (trees : TreesWithSources) → true ≡ is_deep state
        → domain.limit known rest ≡ true
        → Held known before state trees → Goes rest before (too_deep state) trees
    pub passes : (test : Test) (known : K) (if_passed if_failed : K → Bool) (before state : State)
        (trees : TreesWithSources) → true ≡ holds test state
        → domain.test test known if_passed if_failed ≡ true → Held known before state trees
        → Goes if_passed before state trees
    pub fails : (test : Test) (known : K) (if_passed if_failed : K → Bool) (before state : State)
        (trees : TreesWithSources) → false ≡ holds test state
        → domain.test test known if_passed if_failed ≡ true → Held known before state trees
        → Goes if_failed before state trees
    pub turn : (known : K) (before state : State) (trees : TreesWithSources) → Held known before state trees
        → Held (domain.turn known) before state trees
    pub settles : (known : K) → domain.turn (domain.turn known) ≡ domain.turn known
    pub keeps : (known known_later : K) (before state : State) (trees : TreesWithSources)
        → domain.keeps known_later (domain.turn known) ≡ true
        → Held known_later before state trees → Held (domain.turn known) before state trees
    pub opens : (this_node : Node) (known : K) (before state : State) (trees : TreesWithSources)
        → domain.opens this_node known ≡ true
        → Held known before state trees
        → Held (domain.begins this_node) (opened (kind_of this_node) state) (opened (kind_of this_node) state) none
    pub closes : (this_kind : SyntaxKind) (known known_within : K) (rest : K → Bool) (before state later : State)
        (trees more_trees : TreesWithSources)
        → domain.ends this_kind known_within ≡ true → domain.after this_kind known rest ≡ true
        → Held known before state trees
        → Held known_within (opened this_kind state) later more_trees → Grown (opened this_kind state) later more_trees
        → Goes rest before (closed later) (append trees (after_pending state (node this_kind more_trees none)))
    pub inlines : (this_node : Node) (known : K) (before state : State) (trees : TreesWithSources)
        → domain.inlines this_node ≡ true
        → Held known before state trees
        → Held known (opened (kind_of this_node) state) (opened (kind_of this_node) state) none
    pub inlined : (this_node : Node) (known known_within : K) (before state later : State)
        (trees more_trees : TreesWithSources)
        → domain.inlines this_node ≡ true → Held known before state trees
        → Held known_within (opened (kind_of this_node) state) later more_trees
        → Held known_within before (closed later)
        (append trees (after_pending state (node (kind_of this_node) more_trees none)))
    pub enters : (known : K) (rest : K → Bool) (before state : State) (trees : TreesWithSources) → false ≡ is_deep state
        → domain.enters known rest ≡ true
        → Held known before state trees → Goes rest before (enter state) trees
    pub leaves : (known : K) (rest : K → Bool) (before state : State) (trees : TreesWithSources)
        → domain.leaves known rest ≡ true
        → Held known before state trees → Goes rest before (leave state) trees
    pub types : (known : K) (before state : State) (trees : TreesWithSources) → Held known before state trees
        → Held (domain.types known) (flush state) (flush state) none
    pub plain : (known known_later : K) (rest : K → Bool) (before state later : State)
        (trees more_trees : TreesWithSources)
        → domain.plain known known_later rest ≡ true → Held known before state trees
        → Held known_later (flush state) later more_trees
        → Grown (flush state) later more_trees → Goes rest before later (append trees (after_pending state more_trees))
    pub wraps : (known_later : K) (rest : K → Bool) (state later : State) (trees : TreesWithSources)
        → domain.wraps known_later rest ≡ true
        → Held known_later (flush state) later trees → Grown (flush state) later trees
        → Goes rest (opened kind.NON_NULL_TYPE state)
        (wrapped_from (built_count (flush state).tree) kind.NON_NULL_TYPE later) trees
    pub nodes : (this_node : Node) → checks domain this_node ≡ true

  -- a run of a rule that passes the check adds trees that are right
  abbrev pub Comes : (K → Bool) → State → State → Type 0
  Comes rest before after = (trees : TreesWithSources) × Grown before after trees × Goes rest before after trees

  comes-on : (rest : K → Bool) (before state after : State) (trees more_trees : TreesWithSources)
      → Grown before state trees → Grown state after more_trees
      → Goes rest before after (append trees more_trees) → Comes rest before after
  comes-on rest before state after trees more_trees grown second_grown goes =
      (append trees more_trees, grown-then before state after trees more_trees grown second_grown, goes)

  -- a step that adds no tree
  comes-still : (rest : K → Bool) (before state after : State) (trees : TreesWithSources) → Grown before state trees
      → Grown state after none
      → Goes rest before after trees → Comes rest before after
  comes-still rest before state after trees grown second_grown goes = (
    trees,
    subst (λ (x : TreesWithSources). Grown before after x) (append-none trees)
        (grown-then before state after trees none grown second_grown),
    goes,
  )

  module _ (sound : Sound) where
    moved-on : (own : SyntaxKind) (lexeme : Lexeme) (state : State) → state.current ≡ Some lexeme
        → Grown state (moved own state (Some lexeme)) (after_pending state (leaf (token lexeme) own none))
    unfolding flush
    moved-on own lexeme state e =
        grown-then state (flush state) (moved own state (Some lexeme)) (set_aside state.pending)
        (leaf (token lexeme) own none)
        (grown-flush state) (grown-leaf own lexeme (flush state) e refl)

    node-on : (this_kind : SyntaxKind) (state later : State) (trees : TreesWithSources)
        → Grown (opened this_kind state) later trees
        → Grown state (closed later) (after_pending state (node this_kind trees none))
    node-on this_kind state later trees grown =
        grown-then state (flush state) (closed later) (set_aside state.pending) (node this_kind trees none)
        (grown-flush state) (grown-node this_kind state later trees grown)

    bumps : (own : SyntaxKind) (known : K) (rest : K → Bool) (before state : State) (trees : TreesWithSources)
        → domain.leaf own known rest ≡ true
        → Grown before state trees → Held known before state trees → Comes rest before (bump own state)
    unfolding bump
    bumps own known rest before state trees h grown held =
        (elim state.current as (λ o. state.current ≡ o → Comes rest before (moved own state o)) [
          | None ↦ λ e. (trees, grown, sound.no_leaf own known rest before state trees e h held)
          | Some x ↦ λ e. let m = moved-on own x state e in comes-on rest before state (moved own state (Some x)) trees
              (after_pending state (leaf (token x) own none)) grown m
              (sound.leaf own known rest before state trees x e h held m)
        ]) refl

    steps : (primitive : Prim) (n : ℕ) (known : K) (rest : K → Bool) (before state : State) (trees : TreesWithSources)
        → walk domain n (Do primitive) known rest ≡ true → Grown before state trees → Held known before state trees
        → Comes rest before (step primitive state)
    unfolding walk step
    steps (Bump own) n known rest before state trees h grown held = bumps own known rest before state trees h grown held
    steps (Note message) n known rest before state trees h grown held =
        comes-still rest before state (note message state) trees grown
        (grown-note message state) (domain.report known, h, sound.report message known before state trees held)

    -- a node that was walked ends
    node-ends : (this_kind : SyntaxKind) (known : K) (rest : K → Bool) (before state later : State)
        (trees : TreesWithSources)
        → domain.after this_kind known rest ≡ true → Grown before state trees → Held known before state trees
        → Comes (domain.ends this_kind) (opened this_kind state) later → Comes rest before (closed later)
    node-ends this_kind known rest before state later trees h grown held (x, m, c) =
        comes-on rest before state (closed later) trees (after_pending state (node this_kind x none)) grown
        (node-on this_kind state later x m)
        (sound.closes this_kind known c.0 rest before state later trees x c.1 h held c.2 m)

    -- the checks of the rest after a type: after a `!` that wraps it, where one is next, and in any case
    abbrev Banged : K → (K → Bool) → K → Bool
    Banged known rest known_later =
        domain.ends kind.NON_NULL_TYPE known_later and domain.after kind.NON_NULL_TYPE known rest

    abbrev Wraps : K → (K → Bool) → K → Bool
    Wraps known rest known_later = domain.wraps known_later (λ e. domain.leaf kind.BANG e (Banged known rest))

    abbrev Typed_end : K → (K → Bool) → K → Bool
    Typed_end known rest known_later =
        domain.test (At token_kind.Bang) known_later (Wraps known rest) (λ e. domain.plain known e rest)

    wrapped-ends : (known : K) (rest : K → Bool) (before state end_state : State) (trees : TreesWithSources)
        → Grown before state trees
        → Held known before state trees → Comes (Banged known rest) (opened kind.NON_NULL_TYPE state) end_state
        → Comes rest before (closed end_state)
    wrapped-ends known rest before state end_state trees grown held (x, m, c) =
        node-ends kind.NON_NULL_TYPE known rest before state end_state trees
        (and-r (domain.ends kind.NON_NULL_TYPE c.0) _ c.1) grown held (
          x,
          m,
          (c.0, and-l _ (domain.after kind.NON_NULL_TYPE known rest) c.1, c.2),
        )

    pub walked : {rule : Rule} {state after : State} → Runs rule state after
        → (n : ℕ) (known : K) (rest : K → Bool) (before : State) (trees : TreesWithSources)
        → walk domain n rule known rest ≡ true → Grown before state trees → Held known before state trees
        → Comes rest before after
    unfolding walk enter leave
    walked skip n known rest before trees h grown held = (trees, grown, (known, h, held))
    walked {state = state} (does {primitive = primitive} e) n known rest before trees h grown held =
        subst (λ (z : State). Comes rest before z) (sym e)
        (steps primitive n known rest before state trees h grown held)
    walked (seq {other_rule = other_rule} run second_run) n known rest before trees h grown held =
        let m = walked run n known (λ c. walk domain n other_rule c rest) before trees h grown held in
        walked second_run n m.2.0 rest before m.0 m.2.1 m.1 m.2.2
    walked {state = state} (yes {test = test} {rule = rule} {other_rule = other_rule} e run) n known rest before trees
        h grown held =
        let m = sound.passes test known (λ c. walk domain n rule c rest) (λ c. walk domain n other_rule c rest) before
        state trees e h held in
        walked run n m.0 rest before trees m.1 grown m.2
    walked {state = state} (no {test = test} {rule = rule} {other_rule = other_rule} e run) n known rest before trees
        h grown held =
        let m = sound.fails test known (λ c. walk domain n rule c rest) (λ c. walk domain n other_rule c rest) before
        state trees e h held in
        walked run n m.0 rest before trees m.1 grown m.2
    walked {state = state} (done {test = test} {rule = rule} e) n known rest before trees h grown held = (
      trees,
      grown,
      sound.fails test (domain.turn known) (λ c. walk domain n rule c (λ c'. domain.keeps c' (domain.turn known))) rest
          before state trees e h
          (sound.turn known before state trees held),
    )
    walked {state = state} (again {test = test} {rule = rule} {after = after} e run second_run) n known rest
        before trees h grown held =
        let m = sound.passes test (domain.turn known)
        (λ c. walk domain n rule c (λ c'. domain.keeps c' (domain.turn known))) rest before state trees e h
        (sound.turn known before state trees held) in
        let l = walked run n m.0 (λ c'. domain.keeps c' (domain.turn known)) before trees m.1 grown m.2 in
        walked second_run n (domain.turn known) rest before l.0
        (subst (λ (z : K). domain.test test z (λ c. walk domain n rule c (λ c'. domain.keeps c' z)) rest
        ≡ true) (sym (sound.settles known)) h) l.1 (sound.keeps known l.2.0 before after l.0 l.2.1 l.2.2)
    walked (child e c run) zero known rest before trees h grown held = false-true refl h
    walked {state = state} (child {node = this_node} {after = after} {later = later} e c run) (suc n) known rest
        before trees h grown held =
        elim (either (domain.inlines this_node)) [
          | inl p ↦ (
              let l = walked run n known rest after none
              (subst (λ (z : Bool). cond z (walk domain n (inside this_node) known rest)
              (domain.opens this_node known and domain.after (kind_of this_node) known rest) ≡ true) p h)
              (grown-none after)
              (subst (λ (z : State). Held known z z none) (sym e)
              (sound.inlines this_node known before state trees p held)) in
              let comes : Comes rest (opened (kind_of this_node) state) later =
              subst (λ (z : State). Comes rest z later) e l in
              subst (Comes rest before) (sym c) (comes-on rest before state (closed later) trees
              (after_pending state (node (kind_of this_node) comes.0 none)) grown
              (node-on (kind_of this_node) state later comes.0 comes.1) (
                comes.2.0,
                comes.2.1,
                sound.inlined this_node known comes.2.0 before state later trees comes.0 p held comes.2.2,
              )))
          | inr p ↦ (
              let w : domain.opens this_node known and domain.after (kind_of this_node) known rest
              ≡ true = subst (λ (z : Bool). cond z (walk domain n (inside this_node) known rest)
              (domain.opens this_node known and domain.after (kind_of this_node) known rest) ≡ true) p h in
              let l = walked run rules_deep (domain.begins this_node) (domain.ends (kind_of this_node)) after none
              (sound.nodes this_node) (grown-none after)
              (subst (λ (z : State). Held (domain.begins this_node) z z none) (sym e)
              (sound.opens this_node known before state trees (and-l _ _ w) held)) in
              subst (Comes rest before) (sym c)
              (node-ends (kind_of this_node) known rest before state later trees (and-r _ _ w) grown held
              (subst (λ (z : State). Comes (domain.ends (kind_of this_node)) z later) e l)))
        ]
    walked {state = state} (deeper {rule = rule} {other_rule = other_rule} {later = later} z e c run second_run) n known
        rest before trees h grown held =
        let m = sound.enters known
        (λ c. walk domain n rule c (λ c'. domain.leaves c' (λ c''. walk domain n other_rule c'' rest))) before
        state trees z
        (and-r _ _ h) held in
        let l = walked run n m.0 (λ c'. domain.leaves c' (λ c''. walk domain n other_rule c'' rest)) before trees m.1
        (subst (λ (z : State). Grown before z trees) (sym e) grown)
        (subst (λ (z : State). Held m.0 before z trees) (sym e) m.2) in
        let o = sound.leaves l.2.0 (λ c''. walk domain n other_rule c'' rest) before later l.0 l.2.1 l.2.2 in
        walked second_run n o.0 rest before l.0 o.1 (subst (λ (z : State). Grown before z l.0) (sym c) l.1)
        (subst (λ (z : State). Held o.0 before z l.0) (sym c) o.2)
    walked {state = state} (limited z e) n known rest before trees h grown held =
        subst (Comes rest before) (sym e)
        (comes-still rest before state (too_deep state) trees grown (grown-deep state z)
        (sound.limit known rest before state trees z h held))
    walked {state = state} (refused z e) n known rest before trees h grown held =
        subst (Comes rest before) (sym e)
        (comes-still rest before state (too_deep state) trees grown (grown-deep state z)
        (sound.limit known rest before state trees z (and-l _ _ h) held))
    walked (call run) zero known rest before trees h grown held = false-true refl h
    walked (call run) (suc n) known rest before trees h grown held = walked run n known rest before trees h grown held
    walked {state = state} (plain {after = after} {later = later} e run z) n known rest before trees h grown held =
        let l = walked run n (domain.types known) (Typed_end known rest) after none h (grown-none after)
        (subst (λ (z : State). Held (domain.types known) z z none) (sym e)
        (sound.types known before state trees held)) in
        let (j, m, c) = subst (λ (z : State). Comes (Typed_end known rest) z later) e l in
        let o = sound.fails (At token_kind.Bang) c.0 (Wraps known rest) (λ e. domain.plain known e rest)
        (flush state) later j z c.1 c.2 in
        comes-on rest before state later trees (after_pending state j) grown
        (grown-then state (flush state) later (set_aside state.pending) j
        (grown-flush state) m) (sound.plain known o.0 rest before state later trees j o.1 held o.2 m)
    walked {state = state} (wrapped {after = after} {later = later} {last = last} {end_state = end_state} e p q c run z
        second_run) n known rest before trees h
        grown held =
        let l = walked run n (domain.types known) (Typed_end known rest) after none h (grown-none after)
        (subst (λ (z : State). Held (domain.types known) z z none) (sym e)
        (sound.types known before state trees held)) in
        let (j, m, o) = subst (λ (z : State). Comes (Typed_end known rest) z later) e l in
        let there : last ≡ wrapped_from (built_count (flush state).tree) kind.NON_NULL_TYPE later = q
        ∙ ap (λ (n : ℕ). wrapped_from n kind.NON_NULL_TYPE later) (p ∙ ap (λ (z : State). built_count z.tree) e) in
        let o' = sound.passes (At token_kind.Bang) o.0 (Wraps known rest) (λ e. domain.plain known e rest)
        (flush state) later j z o.1 o.2 in
        let q' = sound.wraps o'.0 (λ e. domain.leaf kind.BANG e (Banged known rest)) state later j o'.1 o'.2 m in
        let base : State = opened kind.NON_NULL_TYPE state in
        let y' = walked second_run n q'.0 (Banged known rest) base j q'.1
        (subst (λ (z : State). Grown base z j) (sym there)
        (grown-wrap kind.NON_NULL_TYPE state later j m)) (subst (λ (z : State). Held q'.0 base z j) (sym there) q'.2) in
        subst (Comes rest before) (sym c) (wrapped-ends known rest before state end_state trees grown held y')

    -- the whole of a text
    pub walked_whole : {rule : Rule} {state : State} (xs : List Answer) (max_depth : ℕ) (this_kind : SyntaxKind)
        (known : K) (rest : K → Bool)
        → Runs rule (begun xs max_depth this_kind) state → walk domain rules_deep rule known rest ≡ true
        → Held known (begun xs max_depth this_kind) (begun xs max_depth this_kind) none
        → (trees : TreesWithSources) × (known_later : K) × (rest known_later ≡ true)
        × Held known_later (begun xs max_depth this_kind) state trees
        × Grown (begun xs max_depth this_kind) state trees × Whole xs state (append trees (set_aside state.pending))
    walked_whole {state = state} xs max_depth this_kind known rest run h held =
        let before : State = begun xs max_depth this_kind in
        let m = walked run rules_deep known rest before none h (grown-none before) held in
        (m.0, m.2.0, m.2.1, m.2.2, m.1, whole xs max_depth this_kind state m.0 m.1)

    -- a part of a text: what comes before the first token is in the root
    pub walked_root : {rule : Rule} {state : State} (xs : List Answer) (max_depth : ℕ) (this_kind : SyntaxKind)
        (known : K) (rest : K → Bool)
        → Runs rule (flush (begun xs max_depth this_kind)) state → walk domain rules_deep rule known rest ≡ true
        → Held known (flush (begun xs max_depth this_kind)) (flush (begun xs max_depth this_kind)) none
        → (trees : TreesWithSources) × (known_later : K) × (rest known_later ≡ true)
        × Held known_later (flush (begun xs max_depth this_kind)) state trees
        × Grown (begun xs max_depth this_kind) state (append (set_aside (begun xs max_depth this_kind).pending) trees)
    walked_root {state = state} xs max_depth this_kind known rest run h held =
        let before : State = begun xs max_depth this_kind in
        let m = walked run rules_deep known rest (flush before) none h (grown-none (flush before)) held in (
          m.0,
          m.2.0,
          m.2.1,
          m.2.2,
          grown-then before (flush before) state (set_aside before.pending) m.0 (grown-flush before) m.1,
        )
