-- How many elements and reports a text can have: what its items pay.
--
-- `n` is the fuel of a walk, `all` what the items of the whole text pay; `f` and `g` are the checks of the rest in two
-- cases, `c` says that a check holds.
use Rattle.std.proofs.Common.{◌≡◌, ℕ, zero, suc, ◌+◌, ◌-◌, ◌*◌, ◌^◌, ◌≤◌, min, Bool, true, false, leb, eqb, bit_and}
use Rattle.std.proofs.Common.{is_some, Option, Some, None, List, [], ◌∷◌, length, refl, sym, ap, ◌∙◌, subst, ◌⊎◌, inl}
use Rattle.std.proofs.Common.{inr, arith}
use Rattle.std.proofs.lemmas.Bool.{leb-true, eqb-true, and_parts}
use Rattle.lexical_grammar.specs.Answers.{Answer, limited}
use Rattle.lexical_grammar.specs.Cut.{Item}
use Rattle.lexical_grammar.specs.declared.TokenKind.TheVariants as token
use Rattle.document_grammar.proofs.Booleans.{false-true, and-i, and-l, and-r, or-c, not-c, implies}
use Rattle.document_grammar.specs.Booleans.{◌and◌, ◌or◌}
use Rattle.document_grammar.specs.Forests.{count}
use Rattle.document_grammar.specs.declared.kind.SyntaxKind.{SyntaxKind}
use Rattle.document_grammar.specs.declared.kind.SyntaxKind.TheVariants as kind
use Rattle.grammar_machine.proofs.Checks.{subset}
use Rattle.grammar_machine.proofs.Classes.{holds-and}
use Rattle.grammar_machine.proofs.Sound.{any}
use Rattle.grammar_machine.proofs.TableLemmas.{holds-subset}
use Rattle.grammar_machine.specs.Machine.{holds as within}
use Rattle.parser_rules.proofs.NodeChecks.{node-passes, document_passes}
use Rattle.parser_rules.proofs.lookahead.Split.{split-at}
use Rattle.parser_rules.proofs.lookahead.TokenSets.{absent, present, class_of, of-any, present-is, edges, Seen}
use Rattle.parser_rules.proofs.lookahead.TokenSets.{seen-same, holds-none, part, part-live}
use Rattle.parser_rules.proofs.runs.Fuel.{root_rules_deep_for_sizes, rules_deep_for_sizes}
use Rattle.parser_rules.proofs.runs.Reading.{Shown, second-shown, reading, found}
use Rattle.parser_rules.proofs.runs.Reporting.{after-note, after-too-deep}
use Rattle.parser_rules.proofs.runs.TreesWithSources.{moved_on}
use Rattle.parser_rules.proofs.sizes.Costs.{size, all-count, finish-count, cost, worth, worth_of, outlay, read-cost}
use Rattle.parser_rules.proofs.sizes.Costs.{moved-cost, flush-cost, opened-cost, closed-cost, wrapped-cost, levels-cost}
use Rattle.parser_rules.proofs.sizes.Costs.{Reports, note-cost, deep-cost}
use Rattle.parser_rules.proofs.sizes.SizeCheck.{Rates, Account, opening, spend, by_token, report, report_limit, take}
use Rattle.parser_rules.proofs.sizes.SizeCheck.{asks_limit, ask, level, takes_first, saving, saved, enough, others}
use Rattle.parser_rules.proofs.sizes.SizeCheck.{debt, keeps, later, loop, walk, pays_for_itself, settles, root_pays}
use Rattle.parser_rules.proofs.sizes.SizeCheck.{PaysForAll, element_rates, report_rates}
use Rattle.parser_rules.specs.Nodes.{Node, kind_of, Document}
use Rattle.parser_rules.specs.RuleLanguage.{Test, At, Deep, Not, Both, holds, Prim, Bump, Note, step, Rule, Do, Call}
use Rattle.parser_rules.specs.Rules.{inside}
use Rattle.parser_rules.specs.Runs.{Runs, skip, does, seq, yes, no, done, again, child, limited as limit_met, deeper}
use Rattle.parser_rules.specs.Runs.{refused, call, plain, wrapped}
use Rattle.parser_rules.specs.State.{State, Lexeme, second, add_all, flush, opened, closed, wrapped_from, moved, bump}
use Rattle.parser_rules.specs.State.{note, is_deep, enter, leave, too_deep, fresh, begun, finished}
use Rattle.parser_rules.specs.declared.message.Message.{Message}

-- ---- what steps leave as it is

limit-asked : (test : Test) (state : State) → true ≡ holds test state → asks_limit test ≡ true → is_deep state ≡ false
unfolding holds
limit-asked (Not Deep) state e h = not-c _ (sym e)
limit-asked (Both test other_test) state e h = elim (or-c _ _ h) [
  | inl y ↦ limit-asked test state (sym (and_parts _ _ (sym e)).0) y
  | inr y ↦ limit-asked other_test state (sym (and_parts _ _ (sym e)).1) y
]
limit-asked _ state e h = absurd cc

-- what a step leaves as it is when it takes no token
abbrev Still : State → State → Type 0
Still state after = record {
  current : after.current ≡ state.current;
  items : after.items ≡ state.items;
  deep : is_deep after ≡ is_deep state;
}

still-note : (message : Message) (state : State) → Still state (note message state)
unfolding is_deep
still-note message state =
    after-note (λ t. Still state t) message state (λ errors. record { current = refl; items = refl; deep = refl })

still-deep : (state : State) → Still state (too_deep state)
unfolding is_deep
still-deep state = after-too-deep (λ t. Still state t) state
    (λ errors accepts. record { current = refl; items = refl; deep = refl })

still-opened : (this_kind : SyntaxKind) (state : State) → Still state (opened this_kind state)
unfolding is_deep opened flush
still-opened this_kind state = record { current = refl; items = refl; deep = refl }

still-closed : (state : State) → Still state (closed state)
unfolding is_deep closed
still-closed state = record { current = refl; items = refl; deep = refl }

still-wrapped : (index : ℕ) (this_kind : SyntaxKind) (state : State) → Still state (wrapped_from index this_kind state)
unfolding is_deep wrapped_from
still-wrapped index this_kind state = record { current = refl; items = refl; deep = refl }

still-flush : (state : State) → Still state (flush state)
unfolding is_deep flush
still-flush state = record { current = refl; items = refl; deep = refl }

-- one of two cases was checked
by-case : (b x y : Bool) → elim b [ true ↦ x | false ↦ y ] ≡ true
    → ((b ≡ true) × (x ≡ true)) ⊎ ((b ≡ false) × (y ≡ true))
by-case true x y h = inl (refl, h)
by-case false x y h = inr (refl, h)

-- ---- the account along a run

module _ (rates : Rates) (fair : rates.element + rates.report ≤ rates.item)
    (cheap : rates.element ≤ enough) (nodes : (c : Node)
    → pays_for_itself rules_deep_for_sizes rates c ≡ true) where
  -- what the account knows is so, and its credit is not more than what is left of `all`
  record Held (account : Account) (all : ℕ) (state : State) : Type 0 where
    shown : Shown state.current
    seen : Seen account.near account.far state
    limit : account.below_limit ≡ true → is_deep state ≡ false
    paid : outlay rates state + account.credit ≤ all

  abbrev Comes : (Account → Bool) → ℕ → State → Type 0
  Comes rest all after = (account : Account) × (rest account ≡ true) × Held account all after

  -- only the set of the current token is known, and there is less credit
  opened-held : (x credit all : ℕ) (state : State) → Shown state.current → within (class_of state.current) x ≡ true
      → outlay rates state + credit ≤ all
      → Held (opening x credit) all state
  opened-held x credit all state shown near paid = record {
    shown = shown;
    seen = record { near = near; far = of-any (second state.items) (second-shown state.items) };
    limit = λ i. false-true refl i;
    paid = paid;
  }

  any-held : (credit all : ℕ) (state : State) → Shown state.current → outlay rates state + credit ≤ all
      → Held (opening any credit) all state
  any-held credit all state shown paid = opened-held any credit all state shown (of-any state.current shown) paid

  still-held : (account : Account) (c all : ℕ) (state after : State) → Still state after → outlay rates after + c ≤ all
      → Held account all state
      → Held (record account { credit = c }) all after
  still-held account c all state after still p held = record {
    shown = subst Shown (sym still.current) held.shown;
    seen = seen-same account.near account.far state after still.current still.items held.seen;
    limit = λ i. still.deep ∙ held.limit i;
    paid = p;
  }

  free : (account : Account) (rest : Account → Bool) (all : ℕ) (state after : State)
      → rest account ≡ true → Still state after
      → outlay rates after ≤ outlay rates state → Held account all state → Comes rest all after
  free account rest all state after c still w held = (
    account,
    c,
    still-held account account.credit all state after still (let p = held.paid in
        omega (arith, w, p)) held,
  )

  spends : (x : ℕ) (account : Account) (rest : Account → Bool) (all : ℕ) (state after : State)
      → spend x account rest ≡ true → Still state after
      → outlay rates after ≤ outlay rates state + x → Held account all state → Comes rest all after
  spends x account rest all state after c still w held = (
    record account { credit = account.credit - x },
    and-r _ _ c,
    still-held account (account.credit - x) all state after still (let p = held.paid in
        let l = leb-true _ _ (and-l _ _ c) in omega (arith, w, p, l)) held,
  )

  -- ---- tests

  -- what is known where a test has one answer, as `ask` hands it on
  abbrev answered : Account → Bool → (Account → Bool) → ℕ → ℕ → Bool
  answered account below_limit rest near far =
      rest (record { near = near; far = far; below_limit = below_limit; turns = None; credit = account.credit })

  asks-yes : (test : Test) (account : Account) (f g : Account → Bool) (all : ℕ) (state : State)
      → true ≡ holds test state → ask test account f g ≡ true
      → Held account all state → Comes f all state
  asks-yes test account f g all state e c held =
      let r = split-at test true account.near account.far (answered account (account.below_limit or asks_limit test) f)
      (answered account account.below_limit g) state held.shown e c held.seen in
      let limit : account.below_limit or asks_limit test ≡ true → is_deep state ≡ false = λ i. elim (or-c _ _ i) [
        | inl y ↦ held.limit y
        | inr y ↦ limit-asked test state e y
      ] in
      (_, r.2, record { shown = held.shown; seen = r.3; limit = limit; paid = held.paid })

  asks-no : (test : Test) (account : Account) (f g : Account → Bool) (all : ℕ) (state : State)
      → false ≡ holds test state → ask test account f g ≡ true
      → Held account all state → Comes g all state
  asks-no test account f g all state e c held =
      let r = split-at test false account.near account.far (answered account (account.below_limit or asks_limit test) f)
      (answered account account.below_limit g) state held.shown e c held.seen in
      (_, r.2, record { shown = held.shown; seen = r.3; limit = held.limit; paid = held.paid })

  in-part : (m : ℕ) (account : Account) (rest : Account → Bool) (all : ℕ) (state : State)
      → within (class_of state.current) m ≡ true
      → part true (bit_and account.near m) (λ z. rest (record account { near = z })) ≡ true → Held account all state
      → Comes rest all state
  in-part m account rest all state i c held =
      let z = holds-and (class_of state.current) account.near m held.seen.near i in (
        record account { near = bit_and account.near m },
        part-live (class_of state.current) (bit_and account.near m)
            (λ z. rest (record account { near = z })) c z,
        record {
          shown = held.shown;
          seen = record { near = z; far = held.seen.far };
          limit = held.limit;
          paid = held.paid;
        },
      )

  -- no token is left, or there is one
  by-token : (account : Account) (f g : Account → Bool) (all : ℕ) (state : State) → by_token account f g ≡ true
      → Held account all state
      → ((state.current ≡ None) × Comes f all state)
      ⊎ ((lexeme : Lexeme) × (state.current ≡ Some lexeme) × Comes g all state)
  by-token account f g all state c held = (elim state.current as (λ o. state.current ≡ o
      → ((state.current ≡ None) × Comes f all state) ⊎ ((x : Lexeme) × (state.current ≡ Some x) × Comes g all state)) [
        | None ↦ λ e. inl (
          e,
          in-part (2 ^ absent) account f all state
              (subst (λ o. within (class_of o) (2 ^ absent) ≡ true) (sym e) edges.none_one)
              (and-l _ _ c) held,
        )
        | Some x ↦ λ e. inr (
          x,
          e,
          in-part present account g all state (sym (present-is state.current held.shown) ∙ ap is_some e)
              (and-r _ _ c) held,
        )
      ]) refl

  no-token : (account : Account) (all : ℕ) (state : State) → bit_and account.near present ≡ 0 → Held account all state
      → state.current ≡ None
  no-token account all state z held = (elim state.current as (λ o. state.current ≡ o → state.current ≡ None) [
    | None ↦ λ e. e
    | Some x ↦ λ e. holds-none (class_of state.current) (subst (λ n. within (class_of state.current) n ≡ true) z
        (holds-and (class_of state.current) account.near present held.seen.near
        (sym (present-is state.current held.shown) ∙ ap is_some e)))
  ]) refl

  -- ---- steps

  took : (leaf : SyntaxKind) (lexeme : Lexeme) (account : Account) (rest : Account → Bool) (all : ℕ) (state : State)
      → state.current ≡ Some lexeme
      → rest (opening account.far (account.credit + (rates.item - rates.element))) ≡ true → Held account all state
      → Comes rest all (moved leaf state (Some lexeme))
  unfolding flush
  took leaf lexeme account rest all state e c held =
      let n = found (reading (flush state).items (moved_on leaf lexeme (flush state))) in
      let w = moved-cost rates fair leaf lexeme state e in
      let p = held.paid in (
        opening account.far (account.credit + (rates.item - rates.element)),
        c,
        opened-held account.far (account.credit + (rates.item - rates.element)) all
            (moved leaf state (Some lexeme)) n.shown
            (subst (λ o. within (class_of o) account.far ≡ true) (sym n.next) held.seen.far)
            (omega (arith, w, p, fair)),
      )

  takes : (leaf : SyntaxKind) (account : Account) (rest : Account → Bool) (all : ℕ) (state : State)
      → take rates account rest ≡ true → Held account all state
      → Comes rest all (bump leaf state)
  unfolding bump
  takes leaf account rest all state c held =
      elim (by-token account rest (λ b. rest (opening b.far (b.credit + (rates.item - rates.element)))) all state
      c held) [
        | inl n ↦ subst (λ o. Comes rest all (moved leaf state o)) (sym n.0) n.1
        | inr n ↦ subst (λ o. Comes rest all (moved leaf state o)) (sym n.1)
            (took leaf n.0 n.2.0 rest all state n.1 n.2.1 n.2.2)
      ]

  reports : (account : Account) (rest : Account → Bool) (all : ℕ) (state after : State)
      → Reports rates state after → Still state after
      → report rates account rest ≡ true → Held account all state → Comes rest all after
  reports account rest all state after r still c held =
      elim (by-token account rest (λ b. spend rates.report b rest) all state c held) [
        | inl n ↦ free n.1.0 rest all state after n.1.1 still (r.none n.0) n.1.2
        | inr n ↦ spends rates.report n.2.0 rest all state after n.2.1 still r.most n.2.2
      ]

  limit-reports : (account : Account) (rest : Account → Bool) (all : ℕ) (state after : State)
      → Reports rates state after → Still state after
      → report_limit rates account rest ≡ true → Held account all state → Comes rest all after
  limit-reports account rest all state after r still c held =
      elim (by-case (eqb (bit_and account.near present) 0) (rest account)
      (spend rates.report account rest) c) [
        | inl p ↦ free account rest all state after p.1 still
            (r.none (no-token account all state (eqb-true _ _ p.0) held)) held
        | inr p ↦ spends rates.report account rest all state after p.1 still r.most held
      ]

  steps : (primitive : Prim) (n : ℕ) (account : Account) (rest : Account → Bool) (all : ℕ) (state : State)
      → walk rates n (Do primitive) account rest ≡ true
      → Held account all state → Comes rest all (step primitive state)
  unfolding walk step
  steps (Bump leaf) n account rest all state c held = takes leaf account rest all state c held
  steps (Note message) n account rest all state c held =
      reports account rest all state (note message state) (note-cost rates message state)
      (still-note message state) c held

  -- ---- loops

  module _ (test : Test) (more : ℕ) (turn : Account → (Account → Bool) → Bool) (rest : Account → Bool)
      (all : ℕ) (state : State) where
    -- after a turn the credit is there, or but for the debt
    kept : (credit : ℕ) (account : Account) → keeps rates test credit account ≡ true
        → later rates test turn credit rest ≡ true → Held account all state
        → (b : Account) × (ask test b (λ b. turn b (keeps rates test credit)) rest ≡ true) × Held b all state
    kept credit account i j held =
        let p = held.paid in
        elim (or-c _ _ i) [
          | inl y ↦ (
            opening any credit,
            and-l _ _ j,
            any-held credit all state held.shown (let l = leb-true _ _ y in omega (arith, l, p)),
          )
          | inr y ↦ (
              let l = leb-true _ _ (and-r _ _ y) in
              elim (or-c _ _ (and-r _ _ j)) [
                | inl z ↦ (
                  opening any credit,
                  and-l _ _ j,
                  any-held credit all state held.shown (let o = eqb-true _ _ z in omega (arith, l, o, p)),
                )
                | inr z ↦ (
                  opening others (credit - debt rates test),
                  z,
                  opened-held others (credit - debt rates test) all state held.shown
                      (holds-subset (class_of state.current) account.near others (and-l _ _ y) held.seen.near)
                      (omega (arith, l, p)),
                )
              ])
        ]

    -- one more turn
    turns : (o : Option ℕ) (account : Account) → true ≡ holds test state
        → loop rates test more turn o account rest ≡ true → Held account all state
        → (credit : ℕ) × (later rates test turn credit rest ≡ true)
        × Comes (λ b. turn b (keeps rates test credit)) all state
    turns None account e i held =
        let m = asks-yes test account (λ b. turn b (keeps rates test (account.credit + more))
        and later rates test turn (account.credit + more) rest) rest all state e i held in (
          account.credit + more,
          and-r (turn m.0 (keeps rates test (account.credit + more))) _ m.1,
          (m.0, and-l _ _ m.1, m.2),
        )
    turns (Some c) account e i held = let b = kept c account (and-l _ _ i) (and-r _ _ i) held in
        (c, and-r _ _ i, asks-yes test b.0 (λ b. turn b (keeps rates test c)) rest all state e b.1 b.2)

    -- the end of the loop
    leaves : (o : Option ℕ) (account : Account) → false ≡ holds test state
        → loop rates test more turn o account rest ≡ true → Held account all state
        → Comes rest all state
    leaves None account e i held = asks-no test account (λ b. turn b (keeps rates test (account.credit + more))
        and later rates test turn (account.credit + more) rest) rest all state e i held
    leaves (Some c) account e i held = let b = kept c account (and-l _ _ i) (and-r _ _ i) held in
        asks-no test b.0 (λ b. turn b (keeps rates test c)) rest all state e b.1 b.2

  turned : (credit : ℕ) (account : Account) (all : ℕ) (state : State) → Held account all state
      → Held (record account { turns = Some credit }) all state
  turned credit account all state held = record {
    shown = held.shown;
    seen = record { near = held.seen.near; far = held.seen.far };
    limit = held.limit;
    paid = held.paid;
  }

  -- ---- nodes and levels

  -- a node that takes a token first has an account of its own
  own-account : (node : Node) (account : Account) (all : ℕ) (state : State) → subset account.near present ≡ true
      → Held account all state
      → Held (opening present (enough - rates.element))
      (outlay rates (opened (kind_of node) state) + (enough - rates.element)) (opened (kind_of node) state)
  own-account node account all state p held =
      let e = (still-opened (kind_of node) state).current in
      opened-held present (enough - rates.element) _ (opened (kind_of node) state) (subst Shown (sym e) held.shown)
      (subst (λ o. within (class_of o) present ≡ true) (sym e)
      (holds-subset (class_of state.current) account.near present p held.seen.near)) (omega arith)

  own-rule : (node : Node) → takes_first (inside node) ≡ true
      → walk rates rules_deep_for_sizes (inside node) (opening present (enough - rates.element))
      (λ a. leb (enough + saving) a.credit) ≡ true
  unfolding pays_for_itself
  own-rule node p = implies _ _ (nodes node) p

  paid-for : (node : Node) (account : Account) (all : ℕ) (state later_state : State) → Held account all state
      → Comes (λ b. leb (enough + saving) b.credit)
      (outlay rates (opened (kind_of node) state) + (enough - rates.element)) later_state
      → Held (opening any (account.credit + saving)) all (closed later_state)
  paid-for node account all state later_state held comes =
      let f = closed-cost rates later_state in
      let g = opened-cost rates (kind_of node) state in
      let i = comes.2.paid in
      let j = leb-true _ _ comes.1 in
      let m = held.paid in
      any-held (account.credit + saving) all (closed later_state)
      (subst Shown (sym (still-closed later_state).current) comes.2.shown)
      (omega (arith, f, g, i, j, m, cheap))

  -- in a level nothing is known of the limit
  level-held : (account : Account) (all : ℕ) (state after : State) → after.current ≡ state.current
      → after.items ≡ state.items
      → outlay rates after ≡ outlay rates state → Held account all state → Held (level account) all after
  level-held account all state after e i w held = record {
    shown = subst Shown (sym e) held.shown;
    seen = seen-same account.near account.far state after e i held.seen;
    limit = λ i. false-true refl i;
    paid = let p = held.paid in omega (arith, w, p);
  }

  entered : (account : Account) (all : ℕ) (state : State) → Held account all state
      → Held (level account) all (enter state)
  unfolding enter
  entered account all state held = level-held account all state (enter state) refl refl (levels-cost rates state).0 held

  left : (account : Account) (all : ℕ) (state : State) → Held account all state → Held (level account) all (leave state)
  unfolding leave
  left account all state held = level-held account all state (leave state) refl refl (levels-cost rates state).1 held

  -- after a type: a `!` that wraps it, or none
  abbrev bang : (Account → Bool) → Account → Bool
  bang rest account = ask (At token.Bang) account (λ c. spend rates.element c (λ e. take rates e rest)) rest

  flushed : (account : Account) (all : ℕ) (state : State) → Held account all state → Held account all (flush state)
  flushed account all state held =
      still-held account account.credit all state (flush state) (still-flush state) (let f = flush-cost rates state in
      let p = held.paid in omega (arith, f, p)) held

  after-closed : (rest : Account → Bool) (all : ℕ) (state : State) → Comes rest all state
      → Comes rest all (closed state)
  after-closed rest all state comes = let f = closed-cost rates state in
      free comes.0 rest all state (closed state) comes.1 (still-closed state) (omega (arith, f)) comes.2

  -- ---- runs

  walked : {rule : Rule} {state after : State} → Runs rule state after
      → (n : ℕ) (account : Account) (rest : Account → Bool) (all : ℕ)
      → walk rates n rule account rest ≡ true → Held account all state → Comes rest all after
  unfolding walk
  walked skip n account rest all c held = (account, c, held)
  walked {state = state} (does {primitive = primitive} e) n account rest all c held =
      subst (Comes rest all) (sym e) (steps primitive n account rest all state c held)
  walked (seq {other_rule = other_rule} run second_run) n account rest all c held =
      let m = walked run n account (λ b. walk rates n other_rule b rest) all c held in
      walked second_run n m.0 rest all m.1 m.2
  walked {state = state} (yes {test = test} {rule = rule} {other_rule = other_rule} e run) n account rest all c held =
      let m = asks-yes test account (λ b. walk rates n rule b rest) (λ b. walk rates n other_rule b rest) all state e
      c held in
      walked run n m.0 rest all m.1 m.2
  walked {state = state} (no {test = test} {rule = rule} {other_rule = other_rule} e run) n account rest all c held =
      let m = asks-no test account (λ b. walk rates n rule b rest) (λ b. walk rates n other_rule b rest) all state e c
      held in walked run n m.0 rest all m.1 m.2
  walked {state = state} (done {test = test} {rule = rule} e) n account rest all c held =
      leaves test (saved rule) (λ b k'. walk rates n rule b k') rest all state account.turns account e c held
  walked {state = state} (again {test = test} {rule = rule} {after = after} e run second_run) n account rest all
      c held =
      let m = turns test (saved rule) (λ b k'. walk rates n rule b k') rest all state account.turns account e c held in
      let l = walked run n m.2.0 (keeps rates test m.0) all m.2.1 m.2.2 in
      walked second_run n (record l.0 { turns = Some m.0 }) rest all (and-i l.1 m.1) (turned m.0 l.0 all after l.2)
  walked (child e v run) zero account rest all c held = false-true refl c
  walked {state = state} (child {node = node} {later = later_state} e v run) (suc n) account rest all c held =
      elim (by-case (takes_first (inside node) and subset account.near present)
      (rest (opening any (account.credit + saving)))
      (spend rates.element account (λ b. walk rates n (inside node) b rest)) c) [
        | inl p ↦ (
            let all' : ℕ = outlay rates (opened (kind_of node) state) + (enough - rates.element) in
            let l = walked run rules_deep_for_sizes (opening present (enough - rates.element))
            (λ b. leb (enough + saving) b.credit) all'
            (own-rule node (and-l _ _ p.0)) (subst (Held (opening present (enough - rates.element)) all') (sym e)
            (own-account node account all state (and-r _ _ p.0) held)) in
            subst (Comes rest all) (sym v)
            (opening any (account.credit + saving), p.1, paid-for node account all state later_state held l))
        | inr p ↦ (
            let g = opened-cost rates (kind_of node) state in
            let m = subst (Comes (λ b. walk rates n (inside node) b rest) all) (sym e)
            (spends rates.element account (λ b. walk rates n (inside node) b rest) all state
            (opened (kind_of node) state) p.1
            (still-opened (kind_of node) state) (omega (arith, g)) held) in
            subst (Comes rest all) (sym v) (after-closed rest all later_state (walked run n m.0 rest all m.1 m.2)))
      ]
  walked {state = state} (deeper {other_rule = other_rule} {later = later_state} z e v run second_run) n account
      rest all c held =
      let m = walked run n (level account) (λ b. walk rates n other_rule (level b) rest) all (and-r _ _ c)
      (subst (Held (level account) all) (sym e) (entered account all state held)) in
      walked second_run n (level m.0) rest all m.1 (subst (Held (level m.0) all) (sym v) (left m.0 all later_state m.2))
  walked {state = state} (limit_met z e) n account rest all c held = subst (Comes rest all) (sym e)
      (limit-reports account rest all state (too_deep state) (deep-cost rates state) (still-deep state) c held)
  walked {state = state} (refused z e) n account rest all c held = elim (or-c _ _ (and-l _ _ c)) [
    | inl y ↦ false-true (held.limit y) (sym z)
    | inr y ↦ subst (Comes rest all) (sym e)
        (limit-reports account rest all state (too_deep state) (deep-cost rates state) (still-deep state) y held)
  ]
  walked (call run) zero account rest all c held = false-true refl c
  walked (call run) (suc n) account rest all c held = walked run n account rest all c held
  walked {state = state} (plain {later = later_state} e run z) n account rest all c held =
      let b = walked run n account (bang rest) all c
      (subst (Held account all) (sym e) (flushed account all state held)) in
      asks-no (At token.Bang) b.0 (λ c. spend rates.element c (λ e. take rates e rest)) rest all later_state z b.1 b.2
  walked {state = state} (wrapped {index = index} {later = later_state} {end_state = end_state} e p q v run z
      second_run) n account rest all c held =
      let b = walked run n account (bang rest) all c
      (subst (Held account all) (sym e) (flushed account all state held)) in
      let m = asks-yes (At token.Bang) b.0 (λ c. spend rates.element c (λ e. take rates e rest)) rest all later_state
      z b.1 b.2 in
      let g = wrapped-cost rates index kind.NON_NULL_TYPE later_state in
      let r = spends rates.element m.0 (λ e. take rates e rest) all later_state
      (wrapped_from index kind.NON_NULL_TYPE later_state) m.1
      (still-wrapped index kind.NON_NULL_TYPE later_state) (omega (arith, g)) m.2 in
      subst (Comes rest all) (sym v)
      (after-closed rest all end_state (walked second_run n r.0 rest all r.1 (subst (Held r.0 all) (sym q) r.2)))

  -- ---- roots

  settled : (account : Account) (all : ℕ) (state : State) → settles rates account ≡ true → Held account all state
      → cost rates state + enough ≤ all
  unfolding outlay
  settled account all state c held = elim (or-c _ _ c) [
    | inl y ↦ (let l = leb-true _ _ y in let p = held.paid in omega (arith, l, p))
    | inr y ↦ (
        let l = leb-true _ _ (and-r _ _ y) in
        let p = held.paid in
        let w = there state.current refl
        (present-is state.current held.shown ∙ holds-subset (class_of state.current) account.near present
        (and-l _ _ y) held.seen.near) in
        omega (arith, l, p, w))
  ]
    where
      there : (maybe_lexeme : Option Lexeme) → state.current ≡ maybe_lexeme → is_some state.current ≡ true
          → worth_of rates state.current ≡ rates.item
      there None i j = false-true (ap is_some i) j
      there (Some x) i j = ap (worth_of rates) i

  -- a run of a rule that passes the check costs no more than what can be paid where it begins
  pub costs : {rule : Rule} {state after : State} (x : ℕ) → root_pays rates x rule ≡ true → Shown state.current
      → within (class_of state.current) x ≡ true
      → Runs rule state after → cost rates after ≤ outlay rates state
  unfolding root_pays
  costs {state = state} {after = after} x c shown near run =
      let l = walked run root_rules_deep_for_sizes (opening x enough) (settles rates) (outlay rates state + enough) c
      (opened-held x enough _ state shown near (omega arith)) in
      let e = settled l.0 (outlay rates state + enough) after l.1 l.2 in
      omega (arith, e)

-- ---- elements and reports

-- in this number of items
pub record Sized (n : ℕ) (state : State) : Type 0 where
  pub elements : size state ≤ 5 * n + 1
  pub reports : length state.errors ≤ 3 * n + 1

element-worth : (max_items : ℕ) (items : List Item)
    → worth element_rates (limited max_items items) ≤ 5 * min (length items) max_items
element-worth max_items [] = omega arith
element-worth zero (item ∷ items) = omega arith
element-worth (suc k) (item ∷ items) = let e = element-worth k items in omega (arith, e)

report-worth : (max_items : ℕ) (items : List Item)
    → worth report_rates (limited max_items items) ≤ 3 * min (length items) max_items + 1
report-worth max_items [] = omega arith
report-worth zero (item ∷ items) = omega arith
report-worth (suc k) (item ∷ items) = let e = report-worth k items in omega (arith, e)

-- where a root opens, it is all that was built
begun-cost : (rates : Rates) → rates.element + rates.report ≤ rates.item
    → (xs : List Answer) (limit : ℕ) (root : SyntaxKind)
    → outlay rates (begun xs limit root) ≤ rates.element + worth rates xs
begun-cost rates fair xs limit root = let w = read-cost rates fair xs (fresh xs limit root) refl in omega (arith, w)

-- a text with n items has at most five elements and three reports for each, the root, and one report more
pub sized : {rule : Rule} {before state : State} (max_items : ℕ) (items : List Item) (limit : ℕ) (root : SyntaxKind)
    (x : ℕ) → PaysForAll x rule
    → ((rates : Rates) → outlay rates before ≡ outlay rates (begun (limited max_items items) limit root))
    → Shown before.current
    → within (class_of before.current) x ≡ true → Runs rule before state
    → Sized (min (length items) max_items) state
sized max_items items limit root x pays same shown near run =
    let element = costs element_rates (omega arith) (omega arith) (λ c. (node-passes c).elements) x pays.elements
    shown near run in
    let report = costs report_rates (omega arith) (omega arith) (λ c. (node-passes c).reports) x pays.reports shown
    near run in
    let e = same element_rates in
    let r = same report_rates in
    let f = begun-cost element_rates (omega arith) (limited max_items items) limit root in
    let g = begun-cost report_rates (omega arith) (limited max_items items) limit root in
    let w = element-worth max_items items in
    let v = report-worth max_items items in
    record { elements = omega (arith, element, e, f, w); reports = omega (arith, report, r, g, v) }

pub document-sized : (max_items : ℕ) (items : List Item) (limit : ℕ) (state : State)
    → Runs (Call Document) (begun (limited max_items items) limit kind.DOCUMENT) state
    → Sized (min (length items) max_items) state
document-sized max_items items limit state run =
    let xs = limited max_items items in
    let before : State = begun xs limit kind.DOCUMENT in
    let shown = (found (reading xs (fresh xs limit kind.DOCUMENT))).shown in
    sized max_items items limit kind.DOCUMENT any document_passes.sizes (λ d. refl) shown
    (of-any before.current shown) run

pub finished-count : (state : State) → count (finished state) ≤ size state
finished-count state = let e = finish-count (add_all state.pending state.tree) in let f =
    all-count state.pending state.tree in omega (arith, e, f)
