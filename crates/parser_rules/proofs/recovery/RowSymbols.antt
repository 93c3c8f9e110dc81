-- Whatever is reported, a node's children are symbols of its row, but for ignored, ERROR and SPREAD leaves: a computed
-- check of the rules.
use Rattle.std.proofs.Common.{◌≡◌, ℕ, Bool, true, List, [], ◌∷◌, Some, refl, sym, subst, eqb-true, true≢false}
use Rattle.lexical_grammar.specs.Answers.{Answer}
use Rattle.document_grammar.proofs.Booleans.{and-i, and-l, and-r}
use Rattle.document_grammar.specs.Booleans.{◌and◌, ◌or◌}
use Rattle.document_grammar.specs.Forests as built
use Rattle.document_grammar.specs.Kinds.{DOCUMENT}
use Rattle.document_grammar.specs.Numbers.{number}
use Rattle.document_grammar.specs.Pattern.{member}
use Rattle.document_grammar.specs.declared.kind.SyntaxKind.{SyntaxKind}
use Rattle.document_grammar.specs.declared.kind.SyntaxKind.TheVariants as kind
use Rattle.parser_rules.proofs.NodeChecks.{node-passes, document_passes}
use Rattle.parser_rules.proofs.recovery.RecoveryCheck.{of_row, leaf_of_row, Two_rows, row_check, row_of}
use Rattle.parser_rules.proofs.runs.Fuel.{rules_deep}
use Rattle.parser_rules.proofs.runs.Reading.{Reading, reading, all_kinds, reading-waits}
use Rattle.parser_rules.proofs.runs.Reporting.{after-note, after-too-deep}
use Rattle.parser_rules.proofs.runs.TreesWithSources.{TreesWithSources, none, leaf, node, token, moved_on, append}
use Rattle.parser_rules.proofs.runs.TreesWithSources.{erase, erase-append, set_aside, first-part}
use Rattle.parser_rules.proofs.runs.Walk.{after_pending, Sound, walk, walked_root, walked_whole}
use Rattle.parser_rules.specs.Fragments.{started}
use Rattle.parser_rules.specs.Nodes.{Document}
use Rattle.parser_rules.specs.RuleLanguage.{Rule, Call}
use Rattle.parser_rules.specs.Runs.{Runs}
use Rattle.parser_rules.specs.State.{State, PendingToken, flush, opened, closed, wrapped_from, moved, add_all, enter}
use Rattle.parser_rules.specs.State.{leave, fresh, begun}

-- the children of a node of the kind with the number, and those below
abbrev pub rows : ℕ → built.Forest → Bool
rows k built.none = true
rows k (built.leaf j x rest) = leaf_of_row k j and rows k rest
rows k (built.node j kids rest) = (of_row k j and rows (number j) kids) and rows k rest

abbrev pub rowed : SyntaxKind → built.Forest → Bool
rowed this_kind forest = rows (number this_kind) forest

rows-join : (k : ℕ) (forest more_trees : built.Forest) → rows k forest ≡ true → rows k more_trees ≡ true
    → rows k (built.join forest more_trees) ≡ true
rows-join k built.none g a b = b
rows-join k (built.leaf j x rest) more_trees a b = and-i (and-l _ _ a) (rows-join k rest more_trees (and-r _ _ a) b)
rows-join k (built.node j kids rest) more_trees a b = and-i (and-l _ _ a) (rows-join k rest more_trees (and-r _ _ a) b)

rows-append : (k : ℕ) (trees more_trees : TreesWithSources) → rows k (erase trees) ≡ true
    → rows k (erase more_trees) ≡ true
    → rows k (erase (append trees more_trees)) ≡ true
rows-append k trees more_trees a b = subst (λ (x : built.Forest). rows k x ≡ true) (sym (erase-append trees more_trees))
    (rows-join k (erase trees) (erase more_trees) a b)

-- what waits is ignored or bad text, which each node may have
abbrev Waits : List PendingToken → Type 0
Waits parts = (k : ℕ) → all_kinds (leaf_of_row k) parts ≡ true

rows-aside : (k : ℕ) (parts : List PendingToken) → Waits parts → rows k (erase (set_aside parts)) ≡ true
rows-aside k [] waits = refl
rows-aside k (pending_token ∷ parts) waits = and-i (and-l _ _ (waits k)) (rows-aside k parts (λ j. and-r _ _ (waits j)))

read-aside : {xs : List Answer} {state after : State} → Reading xs state after
    → Waits state.pending → Waits after.pending
unfolding ◌or◌ leaf_of_row member
read-aside this_reading waits k = reading-waits (leaf_of_row k) refl refl refl refl this_reading (waits k)

-- ---- runs

abbrev pub Fit : Two_rows → State → State → TreesWithSources → Type 0
Fit two_rows before state trees = record {
  own : rows two_rows.own (erase trees) ≡ true;
  later : rows two_rows.later (erase trees) ≡ true;
  waits : Waits state.pending;
}

grows : (two_rows : Two_rows) (before state after : State) (trees more_trees : TreesWithSources)
    → Fit two_rows before state trees
    → rows two_rows.own (erase more_trees) ≡ true → rows two_rows.later (erase more_trees) ≡ true → Waits after.pending
    → Fit two_rows before after (append trees (after_pending state more_trees))
grows two_rows before state after trees more_trees fit i j w = record {
  own = rows-append two_rows.own trees (after_pending state more_trees) fit.own
      (rows-append two_rows.own (set_aside state.pending) more_trees
      (rows-aside two_rows.own state.pending fit.waits) i);
  later = rows-append two_rows.later trees (after_pending state more_trees) fit.later
      (rows-append two_rows.later (set_aside state.pending) more_trees
      (rows-aside two_rows.later state.pending fit.waits) j);
  waits = w;
}

pub sound : Sound row_check Fit
unfolding row_check flush opened closed wrapped_from enter leave
sound = record {
  leaf = λ own a k b s f x e c h g. let d = and-l _ _ c in (
    a,
    and-r _ _ c,
    grows a b s (moved own s (Some x)) f (leaf (token x) own none) h (and-i (and-l _ _ d) refl)
        (and-i (and-r _ _ d) refl)
        (read-aside (reading s.items (moved_on own x (flush s))) (λ k. refl)),
  );
  no_leaf = λ own a k b s f e c h. (a, and-r _ _ c, h);
  report = λ m a b s f h. after-note (λ t. Fit a b t f) m s (λ errors. h);
  limit = λ a k b s f d c h. (a, c, after-too-deep (λ t. Fit a b t f) s (λ errors accepts. h));
  passes = λ q a x y b s f e c h. (a, and-l _ _ c, h);
  fails = λ q a x y b s f e c h. (a, and-r _ _ c, h);
  turn = λ a b s f h. h;
  settles = λ a. refl;
  keeps = λ a c b s f e h. record {
    own = subst (λ k. rows k (erase f) ≡ true) (eqb-true _ _ (and-l _ _ e)) h.own;
    later = subst (λ k. rows k (erase f) ≡ true) (eqb-true _ _ (and-r _ _ e)) h.later;
    waits = h.waits;
  };
  opens = λ n a b s f c h. record { own = refl; later = refl; waits = λ k. refl };
  closes = λ j a e k b s u f g c d h i l.
      let r = subst (λ n. rows n (erase g) ≡ true) (eqb-true _ _ c) i.own in
      let o = and-l _ _ d in (
        a,
        and-r _ _ d,
        grows a b s (closed u) f (node j g none) h (and-i (and-i (and-l _ _ o) r) refl)
            (and-i (and-i (and-r _ _ o) r) refl) i.waits,
      );
  inlines = λ n a b s f c h. absurd (true≢false (sym c));
  inlined = λ n a e b s u f g c h i. absurd (true≢false (sym c));
  enters = λ a k b s f w c h. (a, c, h);
  leaves = λ a k b s f c h. (a, c, h);
  types = λ a b s f h. record { own = refl; later = refl; waits = λ k. refl };
  plain = λ a e k b s u f g c h i l.
      let d = and-l _ _ c in
      let r = subst (λ n. rows n (erase g) ≡ true) (eqb-true _ _ (and-l _ _ d)) i.own in (
        a,
        and-r _ _ c,
        grows a b s u f g h r (subst (λ n. rows n (erase g) ≡ true) (sym (eqb-true _ _ (and-r _ _ d))) r)
            i.waits,
      );
  wraps = λ e k s u g c i l. let r = subst (λ n. rows n (erase g) ≡ true) (eqb-true _ _ (and-l _ _ c)) i.later in
      (_, and-r _ _ c, record { own = r; later = r; waits = i.waits });
  nodes = λ n. (node-passes n).row;
}

-- In each tree of the document's rule, also with reports, a node's children are symbols of its row, but for ignored,
-- ERROR and SPREAD leaves.
pub document-rowed : (max_depth : ℕ) (xs : List Answer) (state : State)
    → Runs (Call Document) (begun xs max_depth kind.DOCUMENT) state
    → rowed kind.DOCUMENT (add_all state.pending state.tree).here ≡ true
unfolding row_check
document-rowed max_depth xs state run =
    let (f, a, e, h, g, w) = walked_whole row_check Fit sound xs max_depth kind.DOCUMENT _ _ run document_passes.row
    (record {
      own = refl;
      later = refl;
      waits = read-aside (reading xs (fresh xs max_depth kind.DOCUMENT)) (λ k. refl);
    }) in
    subst (λ (x : built.Forest). rows DOCUMENT x ≡ true) w.tree
    (subst (λ n. rows n (erase (append f (set_aside state.pending))) ≡ true) (eqb-true _ _ e)
    (rows-append a.own f (set_aside state.pending) h.own (rows-aside a.own state.pending h.waits)))

-- The same of the tree of a root's rule, where a part of a document is parsed by itself.
pub root-rowed : {rule : Rule} (max_depth : ℕ) (xs : List Answer) (this_kind : SyntaxKind) (state : State)
    → walk row_check rules_deep rule (row_of this_kind) (row_check.ends this_kind) ≡ true
    → Runs rule (started xs max_depth this_kind) state
    → rowed this_kind state.tree.here ≡ true
unfolding row_check flush
root-rowed max_depth xs k state check run =
    let before : State = begun xs max_depth k in
    let waits : Waits before.pending = read-aside (reading xs (fresh xs max_depth k)) (λ k. refl) in
    let (f, a, e, h, g) = walked_root row_check Fit sound xs max_depth k (row_of k) _ run check
    (record { own = refl; later = refl; waits = λ k. refl }) in
    let all : TreesWithSources = append (set_aside before.pending) f in
    let own = subst (λ n. rows n (erase f) ≡ true) (eqb-true _ _ e) h.own in
    subst (λ (x : built.Forest). rows (number k) x ≡ true) (first-part xs max_depth k state all g).tree
    (rows-append (number k) (set_aside before.pending) f (rows-aside (number k) before.pending waits) own)
