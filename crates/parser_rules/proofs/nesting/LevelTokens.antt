-- There are no more levels than tokens, since each is entered after a token that was taken inside the level around it.
use Rattle.std.proofs.Common.{◌≡◌, ℕ, ◌+◌, ◌<◌, ◌≤◌, Bool, true, false, cond, List, length, Some, None, refl, ap, inl}
use Rattle.std.proofs.Common.{inr, eqb-true, leb-true, arith}
use Rattle.std.specs.Prelude.{is_some}
use Rattle.lexical_grammar.specs.Answers.{Answer}
use Rattle.document_grammar.proofs.Booleans.{either, false-true, and-l, and-r, or-c, implies}
use Rattle.document_grammar.specs.Booleans.{◌or◌}
use Rattle.document_grammar.specs.declared.kind.SyntaxKind.{SyntaxKind}
use Rattle.document_grammar.specs.declared.kind.SyntaxKind.TheVariants as kind
use Rattle.parser_rules.proofs.NodeChecks.{node-passes, document_passes}
use Rattle.parser_rules.proofs.nesting.TokenCheck.{Taken, untaken, take, forget, token_check}
use Rattle.parser_rules.proofs.reports.LimitCheck.{tells_inner}
use Rattle.parser_rules.proofs.reports.PastTheLimit.{test-inner, inner-present}
use Rattle.parser_rules.proofs.runs.Frame.{left, read-left, moved-left, read-untouched}
use Rattle.parser_rules.proofs.runs.Fuel.{rules_deep}
use Rattle.parser_rules.proofs.runs.Reading.{reading}
use Rattle.parser_rules.proofs.runs.Reporting.{after-note, after-too-deep}
use Rattle.parser_rules.proofs.runs.TreesWithSources.{TreesWithSources, moved_on}
use Rattle.parser_rules.proofs.runs.Walk.{Sound, walk, walked_whole, walked_root, always}
use Rattle.parser_rules.specs.Nodes.{Document}
use Rattle.parser_rules.specs.RuleLanguage.{Rule, Call}
use Rattle.parser_rules.specs.Runs.{Runs}
use Rattle.parser_rules.specs.State.{State, Lexeme, flush, opened, closed, wrapped_from, moved, enter, leave, begun}
use Rattle.parser_rules.specs.State.{fresh}

module _ (n : ℕ) where
  -- The levels that are entered, the tokens left to read, and one to spare are no more than n, nor is the highest
  -- nesting.
  record Held (second_taken : Taken) (before state : State) (trees : TreesWithSources) : Type 0 where
    depth : state.depth ≡ before.depth + second_taken.entered
    fewer : left state ≤ left before
    room : state.depth + left state + second_taken.spare ≤ n
    high : state.high ≤ n
    token : second_taken.there ≡ true → is_some state.current ≡ true

  -- a token is taken
  taken : (own : SyntaxKind) (a : Taken) (before state : State) (trees more_trees : TreesWithSources) (lexeme : Lexeme)
      → state.current ≡ Some lexeme
      → Held a before state trees → Held (take a) before (moved own state (Some lexeme)) more_trees
  unfolding flush left
  taken own a b state trees more_trees lexeme e held =
      let u = read-untouched state.items (moved_on own lexeme (flush state)) in
      let l : left (moved own state (Some lexeme)) < left state = moved-left own lexeme (flush state) e in
      let d = held.depth in
      let v = held.fewer in
      let p = held.room in
      let i = held.high in
      let d' = u.depth in
      let i' = u.high in
      let one = at-most a.there a.spare in
      record {
        depth = omega (arith, d, d');
        fewer = omega (arith, l, v);
        room = omega (arith, l, p, d', one);
        high = omega (arith, i, i');
        token = λ y. false-true refl y;
      }
    where
      at-most : (b : Bool) (n : ℕ) → cond b 1 n ≤ n + 1
      at-most true n = omega arith
      at-most false n = omega arith

  -- where there is none, none was known
  not-taken : (a : Taken) (before state : State) (trees : TreesWithSources) → state.current ≡ None
      → Held a before state trees
      → Held (take a) before state trees
  not-taken a b state trees e held = elim (either a.there) [
    | inl y ↦ false-true (ap is_some e) (held.token y)
    | inr y ↦ (let p = held.room in let c = ap (λ (b : Bool). cond b 1 a.spare) y in
        record {
          depth = held.depth;
          fewer = held.fewer;
          room = omega (arith, p, c);
          high = held.high;
          token = λ z. false-true refl z;
        })
  ]

  sound : Sound token_check Held
  unfolding token_check flush opened closed wrapped_from enter leave left
  sound = record {
    leaf = λ own a k b s f x e c h g. (take a, c, taken own a b s f _ x e h);
    no_leaf = λ own a k b s f e c h. (take a, c, not-taken a b s f e h);
    report = λ m a b s f h. after-note (λ t. Held a b t f) m s (λ errors. record {
      depth = h.depth;
      fewer = h.fewer;
      room = h.room;
      high = h.high;
      token = h.token;
    });
    limit = λ a k b s f d c h. (
      a,
      and-r _ _ c,
      after-too-deep (λ t. Held a b t f) s
          (λ errors accepts. let o = eqb-true _ _ (and-l _ _ c) in let p = h.room in let i = h.high in
          record { depth = h.depth; fewer = h.fewer; room = p; high = omega (arith, o, p, i); token = h.token }),
    );
    passes = λ q a x y b s f e c h. (
      record a { there = a.there or tells_inner q },
      and-l _ _ c,
      record {
        depth = h.depth;
        fewer = h.fewer;
        room = h.room;
        high = h.high;
        token = λ z. elim (or-c _ _ z) [ inl i ↦ h.token i | inr i ↦ inner-present s.current (test-inner q s i e) ];
      },
    );
    fails = λ q a x y b s f e c h. (a, and-r _ _ c, h);
    turn = λ a b s f h. record {
      depth = h.depth;
      fewer = h.fewer;
      room = h.room;
      high = h.high;
      token = λ y. false-true refl y;
    };
    settles = λ a. refl;
    keeps = λ a c b s f e h.
        let o = eqb-true _ _ (and-l _ _ e) in
        let l = leb-true _ _ (and-r _ _ e) in
        let d = h.depth in
        let p = h.room in
        record {
          depth = omega (arith, o, d);
          fewer = h.fewer;
          room = omega (arith, l, p);
          high = h.high;
          token = λ y. false-true refl y;
        };
    opens = λ m a b s f c h. let p = h.room in record {
      depth = omega arith;
      fewer = omega arith;
      room = omega (arith, p);
      high = h.high;
      token = λ y. h.token (implies _ _ c y);
    };
    closes = λ j a e k b s u f g c d h i l.
        let n = eqb-true _ _ c in
        let v = i.depth in let w = i.fewer in let x = h.depth in let y = h.fewer in let p = h.room in (
          forget a,
          d,
          record {
            depth = omega (arith, n, v, x);
            fewer = omega (arith, w, y);
            room = omega (arith, n, v, w, p);
            high = i.high;
            token = λ z. false-true refl z;
          },
        );
    inlines = λ m a b s f c h. false-true refl c;
    inlined = λ m a e b s u f g c h i. false-true refl c;
    enters = λ a k b s f w c h.
        let o = eqb-true _ _ (and-l _ _ (and-l _ _ c)) in
        let l = eqb-true _ _ (and-r _ _ (and-l _ _ c)) in
        let d = h.depth in let p = h.room in let i = h.high in (
          _,
          and-r _ _ c,
          record {
            depth = omega (arith, o, d);
            fewer = h.fewer;
            room = omega (arith, l, p);
            high = omega (arith, l, p, i);
            token = h.token;
          },
        );
    leaves = λ a k b s f c h.
        let o = eqb-true _ _ (and-l _ _ c) in
        let d = h.depth in let p = h.room in (
          _,
          and-r _ _ c,
          record {
            depth = omega (arith, o, d);
            fewer = h.fewer;
            room = omega (arith, o, d, p);
            high = h.high;
            token = h.token;
          },
        );
    types = λ a b s f h. let p = h.room in
        record { depth = omega arith; fewer = omega arith; room = p; high = h.high; token = h.token };
    plain = λ a e k b s u f g c h i l.
        let n = eqb-true _ _ (and-l _ _ c) in
        let v = i.depth in let w = i.fewer in let x = h.depth in let y = h.fewer in let p = h.room in (
          forget a,
          and-r _ _ c,
          record {
            depth = omega (arith, n, v, x);
            fewer = omega (arith, w, y);
            room = omega (arith, n, v, w, p);
            high = i.high;
            token = λ z. false-true refl z;
          },
        );
    wraps = λ c k s u g p i
        l. (c, p, record { depth = i.depth; fewer = i.fewer; room = i.room; high = i.high; token = i.token });
    nodes = λ m. (node-passes m).tokens;
  }

-- no deeper than there are answers
pub levels-within : (items : List Answer) (limit : ℕ) (state : State)
    → Runs (Call Document) (begun items limit kind.DOCUMENT) state → state.high ≤ length items
levels-within items limit state run =
    let after : State = fresh items limit kind.DOCUMENT in
    let u = read-untouched items after in
    let l = read-left (reading items after) refl in
    let d = u.depth in
    let h = u.high in
    let (f, a, e, i, g, w) =
    walked_whole token_check (Held (length items)) (sound (length items)) items limit kind.DOCUMENT
    (untaken false) always run document_passes.tokens
    (record {
      depth = omega arith;
      fewer = omega arith;
      room = omega (arith, l, d);
      high = omega (arith, h);
      token = λ y. false-true refl y;
    }) in
    i.high

-- a root of another kind may have one level that no token begins
pub root-levels-within : {rule : Rule} (items : List Answer) (limit : ℕ) (this_kind : SyntaxKind) (state : State)
    → walk token_check rules_deep rule (record (untaken false) { spare = 1 }) always ≡ true
    → Runs rule (flush (begun items limit this_kind)) state
    → state.high ≤ length items + 1
unfolding flush left
root-levels-within items limit this_kind state check run =
    let after : State = fresh items limit this_kind in
    let u = read-untouched items after in
    let l = read-left (reading items after) refl in
    let d = u.depth in
    let h = u.high in
    let (f, a, e, i, g) = walked_root token_check (Held (length items + 1)) (sound (length items + 1)) items
    limit this_kind
    (record (untaken false) { spare = 1 }) always run check
    (record {
      depth = omega arith;
      fewer = omega arith;
      room = omega (arith, l, d);
      high = omega (arith, h);
      token = λ y. false-true refl y;
    }) in
    i.high
