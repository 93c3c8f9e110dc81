-- The highest nesting covers the nesting of every tree, whatever is reported.
--
-- `p` is the number of a parent's kind. The letters in a record `Sound` are those of `Walk`.
use Rattle.std.proofs.Common.{◌≡◌, ℕ, suc, ◌+◌, ◌≤◌, max, min, Bool, true, List, [], ◌∷◌, Some, refl, sym, ap, ◌∙◌, eqb}
use Rattle.std.proofs.Common.{leb, eqb-true, leb-true, arith}
use Rattle.lexical_grammar.specs.Answers.{Answer, usize_max}
use Rattle.document_grammar.proofs.Booleans.{false-true, and-l, and-r}
use Rattle.document_grammar.proofs.Nested.{uncounted, is_bare, weight, weight-none, inner, inner-join, inner-none}
use Rattle.document_grammar.proofs.Nested.{inner-leaf, inner-node, inner-same, inner-count}
use Rattle.document_grammar.specs.Booleans.{◌and◌, ◌or◌}
use Rattle.document_grammar.specs.Builds.{Open, close}
use Rattle.document_grammar.specs.Derivation.{nest}
use Rattle.document_grammar.specs.Forests as built
use Rattle.document_grammar.specs.Forests.{Forest, count}
use Rattle.document_grammar.specs.Kinds.{DOCUMENT, NON_NULL_TYPE}
use Rattle.document_grammar.specs.Numbered.{tree_of}
use Rattle.document_grammar.specs.Numbers.{number}
use Rattle.document_grammar.specs.Pattern.{member}
use Rattle.document_grammar.specs.declared.kind.SyntaxKind.{SyntaxKind}
use Rattle.document_grammar.specs.declared.kind.SyntaxKind.TheVariants as kind
use Rattle.parser_rules.proofs.NodeChecks.{node-passes, document_passes}
use Rattle.parser_rules.proofs.nesting.LevelCheck.{Depth, at_first, level_check}
use Rattle.parser_rules.proofs.runs.Frame.{read-untouched, add_all-above, root-stays}
use Rattle.parser_rules.proofs.runs.Fuel.{rules_deep}
use Rattle.parser_rules.proofs.runs.Reading.{Reading, reading, all_kinds, reading-waits}
use Rattle.parser_rules.proofs.runs.Reporting.{after-note, after-too-deep}
use Rattle.parser_rules.proofs.runs.TreesWithSources as trees
use Rattle.parser_rules.proofs.runs.TreesWithSources.{TreesWithSources, append, token, erase, erase-append, set_aside}
use Rattle.parser_rules.proofs.runs.TreesWithSources.{moved_on, first-part}
use Rattle.parser_rules.proofs.runs.Walk.{after_pending, Sound, walk, walked_whole, walked_root}
use Rattle.parser_rules.proofs.soundness.TableCheck.{counts_itself}
use Rattle.parser_rules.specs.Nodes.{Document, kind_of}
use Rattle.parser_rules.specs.RuleLanguage.{Rule, Call}
use Rattle.parser_rules.specs.Runs.{Runs}
use Rattle.parser_rules.specs.State.{State, PendingToken, add_all, flush, opened, closed, wrapped_from, moved, enter}
use Rattle.parser_rules.specs.State.{leave, fresh, begun, finished}

-- ---- what waits

abbrev all_uncounted : List PendingToken → Bool
all_uncounted = all_kinds (λ k. uncounted (number k))

inner-aside : (p : ℕ) (parts : List PendingToken) → all_uncounted parts ≡ true → inner p (erase (set_aside parts)) ≡ 0
inner-aside p [] h = inner-none p
inner-aside p (part ∷ parts) h =
    let j = inner-join p (built.leaf part.kind part.text built.none) (erase (set_aside parts)) in
    let l = inner-leaf p part.kind part.text in
    let w = weight-none p (number part.kind) (and-l _ _ h) in
    let r = inner-aside p parts (and-r _ _ h) in
    omega (arith, j, l, w, r)

read-waits : {xs : List Answer} {state after : State} → Reading xs state after → all_uncounted state.pending ≡ true
    → all_uncounted after.pending ≡ true
unfolding ◌and◌ member
read-waits = reading-waits (λ k. uncounted (number k)) refl refl refl refl

-- ---- runs

-- In the open node the depth is that where it began, with the levels that were entered in it; the greatest depth covers
-- the nesting of the node and its trees, but for the levels that it owes.
abbrev Held : Depth → State → State → TreesWithSources → Type 0
Held a before state these_trees = record {
  depth : state.depth ≡ before.depth + a.entered;
  deep : state.depth ≤ state.high;
  higher : before.high ≤ state.high;
  peak : min (before.depth + a.open_nodes + inner a.kind (erase these_trees)) usize_max
      ≤ max state.high (state.depth + a.owed);
  waits : all_uncounted state.pending ≡ true;
}

inner-after : (p : ℕ) (state : State) (these_trees more_trees : TreesWithSources) → all_uncounted state.pending ≡ true
    → inner p (erase (append these_trees (after_pending state more_trees)))
    ≡ max (inner p (erase these_trees)) (inner p (erase more_trees))
inner-after p state these_trees more_trees h =
    let a = ap (inner p) (erase-append these_trees (after_pending state more_trees)) in
    let b = inner-join p (erase these_trees) (erase (after_pending state more_trees)) in
    let c = ap (inner p) (erase-append (set_aside state.pending) more_trees) in
    let d = inner-join p (erase (set_aside state.pending)) (erase more_trees) in
    let e = inner-aside p state.pending h in
    omega (arith, a, b, c, d, e)

-- trees are added that the greatest depth covers
grows : (a : Depth) (before state after : State) (these_trees more_trees : TreesWithSources)
    → Held a before state these_trees → after.depth ≡ state.depth
    → state.high ≤ after.high
    → min (before.depth + a.open_nodes + inner a.kind (erase more_trees)) usize_max
    ≤ max after.high (after.depth + a.owed)
    → all_uncounted after.pending ≡ true → Held a before after (append these_trees (after_pending state more_trees))
grows a before state after these_trees more_trees held d u p w = record {
  depth = d ∙ held.depth;
  deep = let e = held.deep in omega (arith, d, u, e);
  higher = let e = held.higher in omega (arith, u, e);
  peak = let e = inner-after a.kind state these_trees more_trees held.waits in let q = held.peak in
      omega (arith, d, u, p, e, q);
  waits = w;
}

leaf-peak : (depth : Depth) (before state after : State) (these_trees : TreesWithSources)
    (this_kind : SyntaxKind) (x : List ℕ)
    → uncounted (number this_kind) ≡ true → Held depth before state these_trees → after.depth ≡ state.depth
    → state.high ≤ after.high
    → min (before.depth + depth.open_nodes + inner depth.kind (built.leaf this_kind x built.none)) usize_max
    ≤ max after.high (after.depth + depth.owed)
leaf-peak depth before state after these_trees this_kind x c held d u = let e = inner-leaf depth.kind this_kind x in
    let w = weight-none depth.kind (number this_kind) c in let q = held.peak in omega (arith, e, w, q, d, u)

-- a node has ended, which began in `state`
node-peak : (depth second_depth : Depth) (before state later : State) (these_trees more_trees : TreesWithSources)
    (this_kind : SyntaxKind)
    → depth.entered + counts_itself (number this_kind) ≡ depth.open_nodes + weight depth.kind (number this_kind)
    → second_depth.kind ≡ number this_kind
    → second_depth.open_nodes ≡ counts_itself (number this_kind) → second_depth.entered ≡ 0 → second_depth.owed ≡ 0
    → Held depth before state these_trees → Held second_depth (opened this_kind state) later more_trees
    → (later.depth ≡ state.depth)
    × (min (before.depth + depth.open_nodes + inner depth.kind (built.node this_kind (erase more_trees) built.none))
    usize_max ≤
    max later.high (later.depth + depth.owed))
unfolding opened flush
node-peak depth second_depth before state later these_trees more_trees this_kind l k o n z held second_held =
    let d = second_held.depth in
    let e = inner-node depth.kind this_kind (erase more_trees) in
    let q = ap (λ (n : ℕ). inner n (erase more_trees)) k in
    let p = second_held.peak in
    let v = second_held.deep in
    let w = held.depth in
    (omega (arith, d, n), omega (arith, d, e, q, p, v, w, l, o, n, z))

bare : is_bare NON_NULL_TYPE ≡ true
unfolding member
bare = refl

sound : Sound level_check Held
unfolding level_check flush opened closed wrapped_from enter leave
sound = record {
  leaf = λ own a k b s f x e c h g.
      let u = read-untouched s.items (moved_on own x (flush s)) in
      let high : s.high ≤ (moved own s (Some x)).high = let v = u.high in omega (arith, v) in (
        a,
        and-r _ _ c,
        grows a b s (moved own s (Some x)) f (trees.leaf (token x) own trees.none) h u.depth high
            (leaf-peak a b s (moved own s (Some x)) f own x.text (and-l _ _ c) h u.depth high)
            (read-waits (reading s.items (moved_on own x (flush s))) refl),
      );
  no_leaf = λ own a k b s f e c h. (a, and-r _ _ c, h);
  report = λ m a b s f h. after-note (λ t. Held a b t f) m s (λ errors. h);
  limit = λ a k b s f d c h. (
    record a { owed = 0 },
    and-r _ _ c,
    after-too-deep (λ t. Held (record a { owed = 0 }) b t f) s
        (λ errors accepts. let o = leb-true _ _ (and-l _ _ c) in let d = h.deep in let u = h.higher in
        let p = h.peak in
        record {
          depth = h.depth;
          deep = omega (arith, d);
          higher = omega (arith, u);
          peak = omega (arith, o, p);
          waits = h.waits;
        }),
  );
  passes = λ q a x y b s f e c h. (a, and-l _ _ c, h);
  fails = λ q a x y b s f e c h. (a, and-r _ _ c, h);
  turn = λ a b s f h. h;
  settles = λ a. refl;
  keeps = λ a c b s f e h.
      let k = ap (λ (n : ℕ). inner n (erase f)) (eqb-true _ _ (and-l _ _ (and-l _ _ e))) in
      let o = eqb-true _ _ (and-r _ _ (and-l _ _ e)) in
      let n = eqb-true _ _ (and-l _ _ (and-r _ _ e)) in
      let z = eqb-true _ _ (and-r _ _ (and-r _ _ e)) in
      let d = h.depth in
      let p = h.peak in
      record {
        depth = omega (arith, d, n);
        deep = h.deep;
        higher = h.higher;
        peak = omega (arith, k, o, z, p);
        waits = h.waits;
      };
  opens = λ n a b s f c h. let i = inner-none (number (kind_of n)) in record {
    depth = omega arith;
    deep = h.deep;
    higher = omega arith;
    peak = omega (arith, i);
    waits = refl;
  };
  closes = λ j a e k b s u f g c d h i l.
      let v = and-l _ _ c in
      let w = and-r _ _ c in
      let n = node-peak a e b s u f g j (eqb-true _ _ (and-l _ _ (and-l _ _ d))) (eqb-true _ _ (and-l _ _ v))
      (eqb-true _ _ (and-r _ _ v))
      (eqb-true _ _ (and-l _ _ w)) (eqb-true _ _ (and-r _ _ w)) h i in
      (a, and-r _ _ d, grows a b s (closed u) f (trees.node j g trees.none) h n.0 i.higher n.1 i.waits);
  inlines = λ n a b s f c h. false-true refl c;
  inlined = λ n a e b s u f g c h i. false-true refl c;
  enters = λ a k b s f w c h.
      let n = eqb-true _ _ (and-l _ _ (and-l _ _ c)) in
      let o = leb-true _ _ (and-r _ _ (and-l _ _ c)) in
      let d = h.depth in let u = h.higher in let p = h.peak in (
        _,
        and-r _ _ c,
        record {
          depth = omega (arith, d, n);
          deep = omega arith;
          higher = omega (arith, u);
          peak = omega (arith, o, p);
          waits = h.waits;
        },
      );
  leaves = λ a k b s f c h.
      let n = eqb-true _ _ (and-l _ _ (and-l _ _ c)) in
      let o = eqb-true _ _ (and-r _ _ (and-l _ _ c)) in
      let d = h.depth in let v = h.deep in let p = h.peak in (
        _,
        and-r _ _ c,
        record {
          depth = omega (arith, d, n);
          deep = omega (arith, v);
          higher = h.higher;
          peak = omega (arith, o, p, v);
          waits = h.waits;
        },
      );
  types = λ a b s f h. let i = inner-none a.kind in let d = h.depth in let v = h.deep in let p = h.peak in
      record {
        depth = omega arith;
        deep = h.deep;
        higher = omega arith;
        peak = omega (arith, i, d, v, p);
        waits = refl;
      };
  plain = λ a e k b s u f g c h i l.
      let v = and-l _ _ c in
      let w = and-l _ _ (and-r _ _ c) in
      let q = ap (λ (n : ℕ). inner n (erase g)) (eqb-true _ _ (and-l _ _ v)) in
      let o = eqb-true _ _ (and-r _ _ v) in
      let n = eqb-true _ _ (and-l _ _ w) in
      let z = eqb-true _ _ (and-r _ _ w) in
      let d = i.depth in let x = i.deep in let p = i.peak in let y = h.depth in (
        a,
        and-r _ _ (and-r _ _ c),
        grows a b s u f g h (omega (arith, d, n)) i.higher (omega (arith, q, o, n, z, d, x, p, y)) i.waits,
      );
  wraps = λ e k s u g c i l.
      let q = inner-same e.kind NON_NULL_TYPE (erase g) (and-l _ _ c) bare in
      let p = i.peak in (
        _,
        and-r _ _ c,
        record {
          depth = i.depth;
          deep = i.deep;
          higher = i.higher;
          peak = omega (arith, q, p);
          waits = i.waits;
        },
      );
  nodes = λ n. (node-passes n).levels;
}

-- ---- the whole

one-node : (this_kind : SyntaxKind) (kids : Forest) → nest (tree_of (built.node this_kind kids built.none))
    ≡ weight DOCUMENT (number this_kind) + inner (number this_kind) kids
unfolding weight inner
one-node this_kind kids = refl

no-weight : (weight DOCUMENT DOCUMENT ≡ 0) × (counts_itself DOCUMENT ≡ 0)
unfolding weight member counts_itself ◌or◌
no-weight = (refl, refl)

-- where the tree has not more elements than can be counted
pub nesting : (items : List Answer) (limit : ℕ) (state : State)
    → Runs (Call Document) (begun items limit kind.DOCUMENT) state
    → count (finished state) ≤ usize_max → nest (tree_of (finished state)) ≤ state.high
unfolding level_check
nesting items limit state run c =
    let before : State = begun items limit kind.DOCUMENT in
    let still = read-untouched items (fresh items limit kind.DOCUMENT) in
    let d = still.depth in
    let first = inner-none DOCUMENT in
    let (f, a, e, h, g, w) =
    walked_whole level_check Held sound items limit kind.DOCUMENT (at_first DOCUMENT) _ run document_passes.levels
    (record {
      depth = omega arith;
      deep = omega (arith, d);
      higher = omega arith;
      peak = omega (arith, first);
      waits = read-waits (reading items (fresh items limit kind.DOCUMENT)) refl;
    }) in
    let here : Forest = (add_all state.pending state.tree).here in
    let root : finished state ≡ built.node kind.DOCUMENT here built.none =
    ap (λ (above : List Open). (close here above).here)
    (add_all-above state.pending state.tree ∙ root-stays items limit kind.DOCUMENT run) in
    let n : nest (tree_of (finished state)) ≡ weight DOCUMENT DOCUMENT + inner DOCUMENT here =
    ap (λ (t : Forest). nest (tree_of t)) root
    ∙ one-node kind.DOCUMENT here in
    let m : inner DOCUMENT here ≤ count here = inner-count DOCUMENT here in
    let l : count (finished state) ≡ suc (count here + 0) = ap count root in
    let t = ap (inner DOCUMENT) (sym w.tree ∙ erase-append f (set_aside state.pending)) in
    let j = inner-join DOCUMENT (erase f) (erase (set_aside state.pending)) in
    let o = inner-aside DOCUMENT state.pending h.waits in
    let k = ap (λ (n : ℕ). inner n (erase f)) (eqb-true _ _ (and-l _ _ (and-l _ _ e))) in
    let x = eqb-true _ _ (and-l _ _ (and-r _ _ e)) in
    let y = eqb-true _ _ (and-r _ _ (and-r _ _ e)) in
    let p = h.peak in let q = h.depth in let z = h.deep in let u = no-weight.0 in
    omega (arith, n, m, l, t, j, o, k, x, y, p, q, z, u, c, d)

-- the same of a root of another kind, where what waits at the end is left out
pub root-nesting : {rule : Rule} (items : List Answer) (limit : ℕ) (this_kind : SyntaxKind) (state : State)
    → eqb (weight DOCUMENT (number this_kind)) (counts_itself (number this_kind))
    and leb (counts_itself (number this_kind)) 1 ≡ true
    → walk level_check rules_deep rule (at_first (number this_kind)) (level_check.ends this_kind) ≡ true
    → Runs rule (flush (begun items limit this_kind)) state
    → count (built.node this_kind state.tree.here built.none) ≤ usize_max
    → nest (tree_of (built.node this_kind state.tree.here built.none)) ≤ state.high
unfolding level_check flush
root-nesting items limit this_kind state heavy check run c =
    let before : State = begun items limit this_kind in
    let waits = read-waits (reading items (fresh items limit this_kind)) refl in
    let still = read-untouched items (fresh items limit this_kind) in
    let d = still.depth in
    let first = inner-none (number this_kind) in
    let (f, a, e, h, g) = walked_root level_check Held sound items limit this_kind (at_first (number this_kind)) _
    run check
    (record {
      depth = omega arith;
      deep = omega (arith, d);
      higher = omega arith;
      peak = omega (arith, first);
      waits = refl;
    }) in
    let here : Forest = state.tree.here in
    let n = one-node this_kind here in
    let m : inner (number this_kind) here ≤ count here = inner-count (number this_kind) here in
    let t = ap (inner (number this_kind))
    (sym (first-part items limit this_kind state (append (set_aside before.pending) f) g).tree
    ∙ erase-append (set_aside before.pending) f) in
    let j = inner-join (number this_kind) (erase (set_aside before.pending)) (erase f) in
    let o = inner-aside (number this_kind) before.pending waits in
    let i = ap (λ (n : ℕ). inner n (erase f)) (eqb-true _ _ (and-l _ _ (and-l _ _ e))) in
    let v = eqb-true _ _ (and-r _ _ (and-l _ _ e)) in
    let x = eqb-true _ _ (and-l _ _ (and-r _ _ e)) in
    let y = eqb-true _ _ (and-r _ _ (and-r _ _ e)) in
    let p = h.peak in let q = h.depth in let z = h.deep in
    let u = eqb-true _ _ (and-l _ _ heavy) in let w = leb-true _ _ (and-r _ _ heavy) in
    omega (arith, n, m, t, j, o, i, v, x, y, p, q, z, u, w, c, d)
