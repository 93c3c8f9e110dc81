-- Where ignored leaves are: no node but the root begins or ends with one, whatever is reported; and in a tree without
-- reports each is where the text fixes it.
use Rattle.std.proofs.Common.{◌≡◌, ℕ, Bool, true, false, List, [], ◌∷◌, Some, refl, sym, ap, ◌∙◌, subst, true≢false}
use Rattle.lexical_grammar.specs.Answers.{Answer}
use Rattle.document_grammar.proofs.Booleans.{and-i, and-l, and-r, not-c}
use Rattle.document_grammar.proofs.Trimmed.{starts_well, ends_with, trim, starts-join, ends-join, trim-join}
use Rattle.document_grammar.proofs.Trimmed.{root-placed}
use Rattle.document_grammar.specs.Forests as built
use Rattle.document_grammar.specs.Numbered.{tree_of}
use Rattle.document_grammar.specs.Placed.{Placed}
use Rattle.document_grammar.specs.declared.kind.SyntaxKind.TheVariants as kind
use Rattle.parser_rules.proofs.NodeChecks.{node-passes, document_passes}
use Rattle.parser_rules.proofs.recovery.RecoveryCheck.{tidy_check}
use Rattle.parser_rules.proofs.reports.NoReport.{EndsWell}
use Rattle.parser_rules.proofs.runs.Frame.{add_all-above}
use Rattle.parser_rules.proofs.runs.Reporting.{after-note, after-too-deep}
use Rattle.parser_rules.proofs.runs.TreesWithSources as trees
use Rattle.parser_rules.proofs.runs.TreesWithSources.{TreesWithSources, append, token, erase, erase-append, set_aside}
use Rattle.parser_rules.proofs.runs.Walk.{after_pending, always, Sound, walked_whole}
use Rattle.parser_rules.proofs.soundness.Soundness.{clean}
use Rattle.parser_rules.specs.Nodes.{kind_of, Document}
use Rattle.parser_rules.specs.Open.{IsRoot}
use Rattle.parser_rules.specs.RuleLanguage.{Call}
use Rattle.parser_rules.specs.Runs.{Runs}
use Rattle.parser_rules.specs.State.{State, PendingToken, add_all, flush, opened, closed, wrapped_from, moved, enter}
use Rattle.parser_rules.specs.State.{leave, begun, finished}

-- ---- what a run builds

pieces-join : (these_trees more_trees : TreesWithSources) → erase (append these_trees more_trees) ≡ built.none
    → (erase these_trees ≡ built.none) × (erase more_trees ≡ built.none)
pieces-join trees.none g e = (refl, e)
pieces-join (trees.leaf o k rest) more_trees e = absurd cc
pieces-join (trees.node k kids rest) more_trees e = absurd cc

trim-aside : (parts : List PendingToken) → trim (erase (set_aside parts)) ≡ true
trim-aside [] = refl
trim-aside (pending_token ∷ parts) = trim-aside parts

trim-append : (these_trees more_trees : TreesWithSources) → trim (erase these_trees) ≡ true
    → trim (erase more_trees) ≡ true
    → trim (erase (append these_trees more_trees)) ≡ true
trim-append these_trees more_trees a b =
    subst (λ (x : built.Forest). trim x ≡ true) (sym (erase-append these_trees more_trees))
    (trim-join (erase these_trees) (erase more_trees) a b)

-- The first tree is no ignored leaf where nothing waited; nor is the last; some tree is added where `before` says so.
abbrev Tidy : Bool → State → State → TreesWithSources → Type 0
Tidy c before state these_trees = record {
  inner : trim (erase these_trees) ≡ true;
  starts : before.pending ≡ [] → starts_well (erase these_trees) ≡ true;
  idle : before.pending ≡ [] → erase these_trees ≡ built.none → state.pending ≡ [];
  ends : ends_with true (erase these_trees) ≡ true;
  some : c ≡ true → ends_with false (erase these_trees) ≡ true;
}

empty : (state : State) → Tidy false state state trees.none
empty state = record {
  inner = refl;
  starts = λ z. refl;
  idle = λ z y. z;
  ends = refl;
  some = λ z. absurd (true≢false (sym z));
}

weaken : (c e : Bool) (before state : State) (these_trees : TreesWithSources) → (e ≡ true → c ≡ true)
    → Tidy c before state these_trees
    → Tidy e before state these_trees
weaken c e before state these_trees i tidy = record {
  inner = tidy.inner;
  starts = tidy.starts;
  idle = tidy.idle;
  ends = tidy.ends;
  some = λ z. tidy.some (i z);
}

-- trees after the waiting leaves, of which the last is no ignored leaf
grows : (c : Bool) (before state after : State) (these_trees more_trees : TreesWithSources)
    → Tidy c before state these_trees → trim (erase more_trees) ≡ true
    → starts_well (erase more_trees) ≡ true → ((e : Bool) → ends_with e (erase more_trees) ≡ true)
    → Tidy true before after (append these_trees (after_pending state more_trees))
grows c before state after these_trees more_trees tidy i j e = record {
  inner = trim-append these_trees (after_pending state more_trees) tidy.inner
      (trim-append (set_aside state.pending) more_trees (trim-aside state.pending) i);
  starts = λ z. subst (λ (x : built.Forest). starts_well x ≡ true)
      (sym (erase-append these_trees (after_pending state more_trees)))
      (starts-join (erase these_trees) (erase (after_pending state more_trees)) (tidy.starts z)
      (λ y. subst (λ (w : List PendingToken). starts_well (erase (append (set_aside w) more_trees)) ≡ true)
      (sym (tidy.idle z y)) j));
  idle = λ z y. absurd (true≢false (sym (e false) ∙ ap (ends_with false)
      (pieces-join (set_aside state.pending) more_trees
      (pieces-join these_trees (after_pending state more_trees) y).1).1));
  ends = last true;
  some = λ z. last false;
}
  where
    last : (v : Bool) → ends_with v (erase (append these_trees (after_pending state more_trees))) ≡ true
    last v = ap (ends_with v) (erase-append these_trees (after_pending state more_trees))
        ∙ (ends-join v (erase these_trees) (erase (after_pending state more_trees))
        ∙ (ap (ends_with (ends_with v (erase these_trees))) (erase-append (set_aside state.pending) more_trees)
        ∙ (ends-join (ends_with v (erase these_trees)) (erase (set_aside state.pending)) (erase more_trees) ∙ e _)))

any-end : (these_trees : TreesWithSources) (b : Bool) → ends_with true (erase these_trees) ≡ true
    → ends_with false (erase these_trees) ≡ true
    → ends_with b (erase these_trees) ≡ true
any-end these_trees true h g = h
any-end these_trees false h g = g

sound : Sound tidy_check Tidy
unfolding tidy_check flush opened closed wrapped_from enter leave
sound = record {
  leaf = λ own a k b s f x e c h g. let i = not-c _ (and-l _ _ c) in (
    a,
    and-r _ _ c,
    weaken true a b (moved own s (Some x)) (append f (after_pending s (trees.leaf (token x) own trees.none)))
        (λ z. refl)
        (grows a b s (moved own s (Some x)) f (trees.leaf (token x) own trees.none) h refl
        (rw i refl) (λ v. rw i refl)),
  );
  no_leaf = λ own a k b s f e c h. (a, and-r _ _ c, h);
  report = λ m a b s f h. after-note (λ t. Tidy a b t f) m s (λ errors. h);
  limit = λ a k b s f d c h. (a, c, after-too-deep (λ t. Tidy a b t f) s (λ errors accepts. h));
  passes = λ q a x y b s f e c h. (a, and-l _ _ c, h);
  fails = λ q a x y b s f e c h. (a, and-r _ _ c, h);
  turn = λ a b s f h. weaken a false b s f (λ z. absurd (true≢false (sym z))) h;
  settles = λ a. refl;
  keeps = λ a c b s f e h. weaken c false b s f (λ z. absurd (true≢false (sym z))) h;
  opens = λ n a b s f c h. empty (opened (kind_of n) s);
  closes = λ j a e k b s u f g c d h i l. (
    true,
    d,
    grows a b s (closed u) f (trees.node j g trees.none) h
        (and-i (and-i (i.starts refl) (and-i i.ends i.inner)) refl) refl (λ v. refl),
  );
  inlines = λ n a b s f c h. absurd (true≢false (sym c));
  inlined = λ n a e b s u f g c h i. absurd (true≢false (sym c));
  enters = λ a k b s f w c h. (a, c, h);
  leaves = λ a k b s f c h. (a, c, h);
  types = λ a b s f h. empty (flush s);
  plain = λ a e k b s u f g c h i
      l. (
        true,
        and-r _ _ c,
        grows a b s u f g h i.inner (i.starts refl)
            (λ v. any-end g v i.ends (i.some (and-l _ _ c))),
      );
  wraps = λ e k s u g c i l. (e, c, i);
  nodes = λ n. (node-passes n).ignored;
}

-- ---- a tree without reports

-- no node but the root begins or ends with an ignored leaf
pub trimmed : (max_depth : ℕ) (xs : List Answer) (state : State)
    → Runs (Call Document) (begun xs max_depth kind.DOCUMENT) state
    → trim (add_all state.pending state.tree).here ≡ true
trimmed max_depth xs state run =
    let (f, a, e, h, g, w) =
    walked_whole tidy_check Tidy sound xs max_depth kind.DOCUMENT false always run document_passes.ignored
    (empty (begun xs max_depth kind.DOCUMENT)) in
    subst (λ (x : built.Forest). trim x ≡ true) w.tree
    (trim-append f (set_aside state.pending) h.inner (trim-aside state.pending))

-- In a tree without reports each ignored leaf is where the text fixes it.
pub placed : (max_depth : ℕ) (xs : List Answer) (state : State) → EndsWell xs → IsRoot state.tree → state.errors ≡ []
    → Runs (Call Document) (begun xs max_depth kind.DOCUMENT) state → Placed (tree_of (finished state))
placed max_depth xs state en root e run =
    let c = clean max_depth xs state en root e run in
    root-placed (add_all state.pending state.tree) (record { before = built.none; kind = root.0 }) refl
    (add_all-above state.pending state.tree ∙ root.2)
    (trimmed max_depth xs state run) c.spells.0.1
