-- Each item becomes one leaf: runs of the grammar's rules give each token a leaf of its own kind, or an ERROR.
use Rattle.std.proofs.Common.{◌≡◌, ℕ, Option, Some, None, List, [], ◌∷◌, ◌++◌, refl, sym, ◌∙◌, ap, ap₂, subst, true}
use Rattle.std.proofs.Common.{false, Bool, cond, eqb, append_assoc, append-nil, not, inl, inr, eqb-true}
use Rattle.lexical_grammar.specs.Answers.{Answer, gives, limit_at, is_end, AreAnswers, answers_text, IsItemText}
use Rattle.lexical_grammar.specs.Cut.{Item}
use Rattle.lexical_grammar.specs.declared.TokenKind.{TokenKind}
use Rattle.lexical_grammar.specs.declared.TokenKind.TheVariants as token_kind
use Rattle.document_grammar.proofs.Booleans.{false-true, and-l, and-r, either, implies}
use Rattle.document_grammar.specs.Booleans.{◌and◌, ◌or◌}
use Rattle.document_grammar.specs.Builds.{Open, close}
use Rattle.document_grammar.specs.Choices.{is_keyword}
use Rattle.document_grammar.specs.Derivation.{spelled, LeafRule}
use Rattle.document_grammar.specs.Forests.{Forest, none, leaf, node, text, join}
use Rattle.document_grammar.specs.Kinds.{IDENT, DOCUMENT}
use Rattle.document_grammar.specs.Leaves.{leaves, IsLeafOf, IsLeafOfToken, OneLeafAnItem, nothing, one, the_end}
use Rattle.document_grammar.specs.Leaves.{the_limit}
use Rattle.document_grammar.specs.Numbers.{number}
use Rattle.document_grammar.specs.Sentence.{leaf_number}
use Rattle.document_grammar.specs.declared.kind.SyntaxKind.{SyntaxKind}
use Rattle.document_grammar.specs.declared.kind.SyntaxKind.TheVariants as kind
use Rattle.grammar_machine.proofs.Checks.{all_below}
use Rattle.grammar_machine.proofs.Patterns.{label}
use Rattle.grammar_machine.proofs.Rules.{leaf-rule}
use Rattle.grammar_machine.proofs.Sound.{any, leaf-lt, leaf-ok, leaf-token}
use Rattle.grammar_machine.proofs.Steps.{hits-fires}
use Rattle.grammar_machine.proofs.TableLemmas.{head-same, tail-same, below-at, holds-disjoint}
use Rattle.grammar_machine.proofs.generated.Labels.{labels}
use Rattle.grammar_machine.specs.Machine.{holds as within, is_leaf, entries, fires, class, token as token_of_leaf}
use Rattle.grammar_machine.specs.Table.{name_leaves}
use Rattle.parser_rules.proofs.NodeChecks.{node-passes, document_passes}
use Rattle.parser_rules.proofs.leaves.LeafCheck.{is_error, belongs, Tokens, anything, leaf_check}
use Rattle.parser_rules.proofs.lookahead.Split.{split-at}
use Rattle.parser_rules.proofs.lookahead.TokenSets.{absent, over, class_of, of-any, Seen, seen-any, seen-more, edges}
use Rattle.parser_rules.proofs.lookahead.TokenSets.{flip}
use Rattle.parser_rules.proofs.reports.NoReport.{end-kind}
use Rattle.parser_rules.proofs.runs.AtTheEnd.{EndNow, ends, read-ends}
use Rattle.parser_rules.proofs.runs.Frame.{add_all-above, root-kept}
use Rattle.parser_rules.proofs.runs.Fuel.{rules_deep}
use Rattle.parser_rules.proofs.runs.Reading.{Reading, found, Shown, second-shown, reading}
use Rattle.parser_rules.proofs.runs.Reporting.{after-note, after-too-deep}
use Rattle.parser_rules.proofs.runs.TreesWithSources as trees
use Rattle.parser_rules.proofs.runs.TreesWithSources.{by-kind, Source, token, aside, TreesWithSources, append, erase}
use Rattle.parser_rules.proofs.runs.TreesWithSources.{erase-append, flat, flat-append, set_aside, source_at, now_of}
use Rattle.parser_rules.proofs.runs.TreesWithSources.{sources, moved_on, to_come, FirstPart, first-part}
use Rattle.parser_rules.proofs.runs.Walk.{after_pending, always, Goes, Sound, walked_whole, walk, walked_root}
use Rattle.parser_rules.specs.Nodes as rule
use Rattle.parser_rules.specs.Nodes.{kind_of}
use Rattle.parser_rules.specs.Open.{IsRoot}
use Rattle.parser_rules.specs.RuleLanguage.{Ready, holds, Prim, Rule, Do, Seq, When, While, Call}
use Rattle.parser_rules.specs.Rules.{body}
use Rattle.parser_rules.specs.Runs.{Runs, seq, yes, no, done, again, call}
use Rattle.parser_rules.specs.State.{State, Text, Lexeme, PendingToken, ignored, second, add_all, flush, opened, closed}
use Rattle.parser_rules.specs.State.{wrapped_from, moved, is_over, enter, leave, fresh, begun, finished}

-- ---- the leaves of the trees that are built

leaves-join : (forest more_trees : Forest) → leaves (join forest more_trees) ≡ leaves forest ++ leaves more_trees
leaves-join none more_trees = refl
leaves-join (leaf this_kind s rest) more_trees =
    ap (λ l. record { kind = this_kind; text = s } ∷ l) (leaves-join rest more_trees)
leaves-join (node this_kind kids rest) more_trees = ap (λ l. leaves kids ++ l) (leaves-join rest more_trees)
    ∙ sym (append_assoc (leaves kids) (leaves rest) (leaves more_trees))

-- the leaf of a token belongs to it, and what waited is a leaf as it was
abbrev pub LeafOf : Source → PendingToken → Type 0
LeafOf (token lexeme) pending_token = (pending_token.text ≡ lexeme.text) × IsLeafOf (Some lexeme.kind) pending_token
LeafOf (aside pending_token) l = (l.text ≡ pending_token.text) × (l.kind ≡ pending_token.kind)

pub data LeavesOf : List Source → List PendingToken → Type 0 where
  no_more : LeavesOf [] []
  one_more : {source : Source} {pending_token : PendingToken} {these_sources : List Source} {ls : List PendingToken}
      → LeafOf source pending_token
      → LeavesOf these_sources ls → LeavesOf (source ∷ these_sources) (pending_token ∷ ls)

leaves-append : {these_sources more_sources : List Source} {ls ms : List PendingToken} → LeavesOf these_sources ls
    → LeavesOf more_sources ms
    → LeavesOf (these_sources ++ more_sources) (ls ++ ms)
leaves-append no_more leaves_of = leaves_of
leaves-append (one_more leaf_of leaves_of) second_leaves_of =
    one_more leaf_of (leaves-append leaves_of second_leaves_of)

abbrev pub Fit : TreesWithSources → Type 0
Fit these_trees = LeavesOf (flat these_trees) (leaves (erase these_trees))

fit-append : (these_trees more_trees : TreesWithSources) → Fit these_trees → Fit more_trees
    → Fit (append these_trees more_trees)
fit-append these_trees more_trees fit second_fit = rw (
  flat-append these_trees more_trees,
  erase-append these_trees more_trees,
  leaves-join (erase these_trees) (erase more_trees),
) (leaves-append fit second_fit)

fit-aside : (parts : List PendingToken) → Fit (set_aside parts)
fit-aside [] = no_more
fit-aside (pending_token ∷ parts) = one_more (refl, refl) (fit-aside parts)

fit-after : (state : State) (these_trees more_trees : TreesWithSources) → Fit these_trees → Fit more_trees
    → Fit (append these_trees (after_pending state more_trees))
fit-after state these_trees more_trees fit second_fit = fit-append these_trees (after_pending state more_trees) fit
    (fit-append (set_aside state.pending) more_trees (fit-aside state.pending) second_fit)

fit-node : (this_kind : SyntaxKind) (these_trees : TreesWithSources) → Fit these_trees
    → Fit (trees.node this_kind these_trees trees.none)
fit-node this_kind these_trees fit = leaves-append fit no_more

-- ---- a leaf that belongs to its token

error-is : (this_kind : SyntaxKind) → is_error this_kind ≡ true → this_kind ≡ kind.ERROR
error-is kind.ERROR e = refl
error-is _ e = absurd cc

error-fits : (lexeme : Lexeme) (own : SyntaxKind) → ignored lexeme.kind ≡ None → own ≡ kind.ERROR
    → IsLeafOf (Some lexeme.kind) (record { kind = own; text = lexeme.text })
error-fits lexeme own i e =
    subst (λ found. IsLeafOfToken lexeme.kind found (record { kind = own; text = lexeme.text })) (sym i) (inl e)

abbrev spell_test : ℕ → Bool
spell_test l = not (eqb (label l) l) or eqb (cond (is_keyword l) IDENT l) (cond (within l name_leaves) IDENT l)

spell-checked : all_below DOCUMENT spell_test ≡ true
unfolding ◌and◌ ◌or◌ within label labels
spell-checked = refl

token-belongs : (l : ℕ) (this_token_kind : TokenKind) (this_text : Text) → is_leaf l ≡ true → eqb (label l) l ≡ true
    → fires l (class (leaf_number this_token_kind, this_text)) 0 ≡ true
    → (spelled l this_text ≡ (leaf_number this_token_kind, this_text))
    × LeafRule l this_text
unfolding token_of_leaf
token-belongs l this_token_kind this_text i e f =
    let s = eqb-true _ _ (implies _ _ (below-at spell_test DOCUMENT l (leaf-lt l i) spell-checked) e) in (
      ap (λ n. (n, this_text)) s ∙ leaf-token l 0 (leaf_number this_token_kind, this_text) i f,
      subst (λ n. LeafRule n this_text) (eqb-true _ _ e)
          (leaf-rule l this_text (leaf-ok l 0 (leaf_number this_token_kind, this_text) i f)),
    )

belongs-fits : (x : ℕ) (own : SyntaxKind) (lexeme : Lexeme) → ignored lexeme.kind ≡ None → belongs x own ≡ true
    → within (class_of (Some lexeme)) x ≡ true
    → IsLeafOf (Some lexeme.kind) (record { kind = own; text = lexeme.text })
unfolding belongs fires
belongs-fits x own lexeme i b h = elim (either (is_end lexeme.kind)) [
  | inl e ↦ (
      let z : within 0 x ≡ true =
      subst (λ b. within (cond b 0 (class (leaf_number lexeme.kind, lexeme.text))) x ≡ true) e h in
      false-true (holds-disjoint 0 x over (and-l _ _ (and-l _ _ b)) z) edges.end_over)
  | inr e ↦ (
      let z : within (class (leaf_number lexeme.kind, lexeme.text)) x ≡ true = subst
      (λ b. within (cond b 0 (class (leaf_number lexeme.kind, lexeme.text))) x ≡ true) e h in
      let f : fires (number own) (class (leaf_number lexeme.kind, lexeme.text)) 0
      ≡ true = hits-fires (entries (number own)) x any (class (leaf_number lexeme.kind, lexeme.text)) 0
      (and-r _ _ (and-r _ _ b)) z edges.end_any in
      subst (λ found. IsLeafOfToken lexeme.kind found (record { kind = own; text = lexeme.text })) (sym i)
      (inr (token-belongs (number own) lexeme.kind lexeme.text (and-r _ _ (and-l _ _ b)) (and-l _ _ (and-r _ _ b)) f)))
]

none_belongs : {A : Type 0} (x : ℕ) (own : SyntaxKind) → belongs x own ≡ true → within absent x ≡ true → A
unfolding belongs
none_belongs x own b h = false-true (holds-disjoint absent x over (and-l _ _ (and-l _ _ b)) h) edges.none_over

-- ---- runs

abbrev Held : Tokens → State → State → TreesWithSources → Type 0
Held tokens before state these_trees =
    record { shown : Shown state.current; seen : Seen tokens.near tokens.far state; fits : Fit these_trees }

module _ (own : SyntaxKind) (tokens : Tokens) (rest : Tokens → Bool) (before state : State)
    (these_trees : TreesWithSources) (lexeme : Lexeme)
    (e : state.current ≡ Some lexeme) (held : Held tokens before state these_trees) where
  abbrev after : State
  after = moved own state (Some lexeme)

  abbrev grown : TreesWithSources
  grown = append these_trees (after_pending state (trees.leaf (token lexeme) own trees.none))

  next : Reading state.items (moved_on own lexeme (flush state)) after
  unfolding flush
  next = reading state.items (moved_on own lexeme (flush state))

  fits-after : IsLeafOf (Some lexeme.kind) (record { kind = own; text = lexeme.text }) → Fit grown
  fits-after is_leaf_of =
      fit-after state these_trees (trees.leaf (token lexeme) own trees.none) held.fits
      (one_more (refl, is_leaf_of) no_more)

  taken : cond (is_error own) (rest anything)
      (belongs tokens.near own and rest (record { near = tokens.far; far = any })) ≡ true
      → Goes leaf_check Held rest before after grown
  taken c = elim (either (is_error own)) [
    | inl i ↦ (
      anything,
      (rw i at c),
      record {
        shown = (found next).shown;
        seen = seen-any after ((found next).shown);
        fits = fits-after (error-fits lexeme own (subst Shown e held.shown) (error-is own i));
      },
    )
    | inr i ↦ (
        let d = rw i at c in (
          record { near = tokens.far; far = any },
          and-r _ _ d,
          record {
            shown = (found next).shown;
            seen = record {
              near = subst (λ o. within (class_of o) tokens.far ≡ true) (sym (found next).next) held.seen.far;
              far = of-any (second after.items) (second-shown after.items);
            };
            fits = fits-after (belongs-fits tokens.near own lexeme (subst Shown e held.shown) (and-l _ _ d)
                (subst (λ o. within (class_of o) tokens.near ≡ true) e held.seen.near));
          },
        ))
  ]

not-taken : (own : SyntaxKind) (tokens : Tokens) (rest : Tokens → Bool) (before state : State)
    (these_trees : TreesWithSources) → state.current ≡ None
    → cond (is_error own) (rest anything) (belongs tokens.near own and rest (record { near = tokens.far; far = any }))
    ≡ true
    → Held tokens before state these_trees → Goes leaf_check Held rest before state these_trees
not-taken own tokens rest before state these_trees e c held = elim (either (is_error own)) [
  | inl i ↦ (anything, (rw i at c), record { shown = held.shown; seen = seen-any state held.shown; fits = held.fits })
  | inr i ↦ none_belongs tokens.near own (and-l _ _ (rw i at c))
      (subst (λ o. within (class_of o) tokens.near ≡ true) e held.seen.near)
]

sound : Sound leaf_check Held
unfolding leaf_check flush opened closed wrapped_from enter leave
sound = record {
  leaf = λ own a k b s f x e c h g. taken own a k b s f x e h c;
  no_leaf = not-taken;
  report = λ m a b s f h. after-note (λ t. Held a b t f) m s (λ errors. h);
  limit = λ a k b s f d c h. (a, c, after-too-deep (λ t. Held a b t f) s (λ errors accepts. h));
  passes = λ q a x y b s f e c h. let r = split-at q true a.near a.far (λ u v. x (record { near = u; far = v }))
      (λ u v. y (record { near = u; far = v })) s h.shown e c h.seen in
      (_, r.2, record { shown = h.shown; seen = r.3; fits = h.fits });
  fails = λ q a x y b s f e c h. let r = split-at q false a.near a.far (λ u v. x (record { near = u; far = v }))
      (λ u v. y (record { near = u; far = v })) s h.shown e c h.seen in
      (_, r.2, record { shown = h.shown; seen = r.3; fits = h.fits });
  turn = λ a b s f h. record { shown = h.shown; seen = seen-any s h.shown; fits = h.fits };
  settles = λ a. refl;
  keeps = λ a c b s f e h. record { shown = h.shown; seen = seen-any s h.shown; fits = h.fits };
  opens = λ n a b s f c h. record { shown = h.shown; seen = seen-more a.near a.far _ _ s c h.seen; fits = no_more };
  closes = λ j a e k b s u f g c d h i l. (
    anything,
    d,
    record {
      shown = i.shown;
      seen = seen-any u i.shown;
      fits = fit-after s f (trees.node j g trees.none) h.fits (fit-node j g i.fits);
    },
  );
  inlines = λ n a b s f c h. record { shown = h.shown; seen = h.seen; fits = no_more };
  inlined = λ n a e b s u f g c h i. record {
    shown = i.shown;
    seen = i.seen;
    fits = fit-after s f (trees.node (kind_of n) g trees.none) h.fits (fit-node (kind_of n) g i.fits);
  };
  enters = λ a k b s f w c h. (a, c, h);
  leaves = λ a k b s f c h. (a, c, h);
  types = λ a b s f h. record { shown = h.shown; seen = h.seen; fits = no_more };
  plain = λ a e k b s u f g c h i
      l. (e, c, record { shown = i.shown; seen = i.seen; fits = fit-after s f g h.fits i.fits });
  wraps = λ e k s u g c i l. (e, c, i);
  nodes = λ n. (node-passes n).leaves;
}

-- ---- the whole

leaf-item : (item : Item) (pending_token : PendingToken) → LeafOf (source_at item item.kind) pending_token
    → (pending_token.text ≡ item.text) × IsLeafOf item.kind pending_token
leaf-item item pending_token = by-kind (λ found o. LeafOf o pending_token
    → (pending_token.text ≡ item.text) × IsLeafOf found pending_token) item (λ h. h) (λ k i h. h)
    (λ k own i h. (h.0, subst (λ found. IsLeafOfToken k found pending_token) (sym i) h.1))

abbrev ends_text : Source → Bool
ends_text (token lexeme) = is_end lexeme.kind
ends_text (aside pending_token) = false

end-item : (item : Item) → ends_text (source_at item item.kind) ≡ true → item.kind ≡ Some token_kind.Eof
end-item item = by-kind (λ found o. ends_text o ≡ true → found ≡ Some token_kind.Eof) item (λ h. absurd cc)
    (λ k i h. ap Some (end-kind k h))
    (λ k own i h. absurd cc)

-- each item has a leaf, but for the end
each-item : (xs : List Answer) {these_sources : List Source} {ls : List PendingToken} (maybe_lexeme : Option Lexeme)
    → is_over maybe_lexeme ≡ true
    → LeavesOf these_sources ls → these_sources ++ now_of maybe_lexeme ≡ sources xs → OneLeafAnItem xs ls
each-item [] maybe_lexeme h no_more e = nothing
each-item [] maybe_lexeme h (one_more leaf_of leaves_of) e = absurd cc
each-item (limit_at index ∷ xs) maybe_lexeme h leaves_of e = the_limit (each-item xs maybe_lexeme h leaves_of e)
each-item (gives item ∷ xs) None h no_more e = absurd cc
each-item (gives item ∷ xs) (Some x) h no_more e =
    the_end (end-item item (ap ends_text (sym (head-same e)) ∙ h)) (each-item xs None refl no_more (tail-same e))
each-item (gives item ∷ xs) maybe_lexeme h (one_more {pending_token = pending_token} leaf_of leaves_of) e =
    let f = leaf-item item pending_token (subst (λ x. LeafOf x pending_token) (head-same e) leaf_of) in
    one f.0 f.1 (each-item xs maybe_lexeme h leaves_of (tail-same e))

finished-leaves : (state : State) → IsRoot state.tree
    → leaves (finished state) ≡ leaves (add_all state.pending state.tree).here
finished-leaves state is_root = let here = (add_all state.pending state.tree).here in
    ap (λ (above : List Open). leaves (close here above).here) (add_all-above state.pending state.tree ∙ is_root.2)
    ∙ append-nil (leaves here)

none-left : (maybe_lexeme : Option Lexeme) (items : List Answer) → EndNow maybe_lexeme items
    → is_over maybe_lexeme ≡ true → items ≡ []
unfolding EndNow
none-left None items end_now e = end_now
none-left (Some x) items end_now e = end_now e

-- ---- documents

loop-over : {this_rule : Rule} {state next_state : State} → Runs (While Ready this_rule) state next_state
    → is_over next_state.current ≡ true
unfolding holds
loop-over {next_state = next_state} (done q) = sym (flip false (is_over next_state.current) q)
loop-over (again q run second_run) = loop-over second_run

wanted-over : {this_rule : Rule} {primitive : Prim} {state next_state : State}
    → Runs (When Ready (While Ready this_rule) (Seq (Do primitive) (While Ready this_rule))) state next_state
    → is_over next_state.current ≡ true
wanted-over (yes q run) = loop-over run
wanted-over (no q (seq run second_run)) = loop-over second_run

pub document-over : {state next_state : State} → Runs (Call rule.Document) state next_state
    → is_over next_state.current ≡ true
unfolding body
document-over (call run) = wanted-over run

-- all that is answered to a document is read
pub document-read : {state : State} (items : List Answer) (limit : ℕ) → AreAnswers items
    → Runs (Call rule.Document) (begun items limit kind.DOCUMENT) state
    → state.items ≡ []
document-read {state = state} items limit are run = none-left state.current state.items
    (ends run (read-ends items (fresh items limit kind.DOCUMENT) refl are)).now (document-over run)

-- the leaves of a document's tree are one for one the items that were answered
pub document-leaves : {state : State} (items : List Answer) (limit : ℕ) → AreAnswers items
    → Runs (Call rule.Document) (begun items limit kind.DOCUMENT) state
    → OneLeafAnItem items (leaves (finished state))
document-leaves {state = state} items limit are run =
    let s = begun items limit kind.DOCUMENT in
    let shown = (found (reading items (fresh items limit kind.DOCUMENT))).shown in
    let (f, a, e, h, g, w) =
    walked_whole leaf_check Held sound items limit kind.DOCUMENT anything always run document_passes.leaves
    (record { shown = shown; seen = seen-any s shown; fits = no_more }) in
    let last = document-read items limit are run in
    let order : flat (append f (set_aside state.pending)) ++ now_of state.current
    ≡ sources items = ap (λ (v : List Source). flat (append f (set_aside state.pending)) ++ v)
    (sym (ap (λ (xs : List Answer). now_of state.current ++ sources xs) last ∙ append-nil (now_of state.current)))
    ∙ w.order in
    let each = each-item items state.current (document-over run)
    (fit-append f (set_aside state.pending) h.fits (fit-aside state.pending)) order in
    subst (λ (ls : List PendingToken). OneLeafAnItem items ls) (ap leaves w.tree
    ∙ sym (finished-leaves state (root-kept items limit kind.DOCUMENT refl run))) each

-- ---- their text

abbrev pub joined : List PendingToken → Text
joined [] = []
joined (pending_token ∷ ls) = pending_token.text ++ joined ls

pub joined-append : (ls ms : List PendingToken) → joined (ls ++ ms) ≡ joined ls ++ joined ms
joined-append [] ms = refl
joined-append (pending_token ∷ ls) ms =
    ap (λ t. pending_token.text ++ t) (joined-append ls ms)
    ∙ sym (append_assoc pending_token.text (joined ls) (joined ms))

pub text-leaves : (forest : Forest) → text forest ≡ joined (leaves forest)
text-leaves none = refl
text-leaves (leaf this_kind s rest) = ap (λ t. s ++ t) (text-leaves rest)
text-leaves (node this_kind kids rest) =
    ap₂ (λ (a b : Text). a ++ b) (text-leaves kids) (text-leaves rest) ∙ sym (joined-append (leaves kids) (leaves rest))

end-text : (item : Item) → item.kind ≡ Some token_kind.Eof → IsItemText item.kind item.text → item.text ≡ []
end-text item e is_item_text = subst (λ found. IsItemText found item.text) e is_item_text

joined-answers : {xs : List Answer} {ls : List PendingToken} → OneLeafAnItem xs ls → AreAnswers xs
    → joined ls ≡ answers_text xs
joined-answers nothing are = refl
joined-answers (one {item = item} {answers = xs} {l = l} {ls = ls} e fit one_leaf_an_item) are =
    ap₂ (λ (a b : Text). a ++ b) e (joined-answers one_leaf_an_item are.2)
joined-answers (the_end {item = item} {answers = xs} {ls = ls} e one_leaf_an_item) are =
    joined-answers one_leaf_an_item are.2 ∙ sym (ap (λ t. t ++ answers_text xs) (end-text item e are.0))
joined-answers (the_limit {answers = xs} one_leaf_an_item) are =
    joined-answers one_leaf_an_item (subst AreAnswers (sym are) tt)

-- where each item is a leaf, the text is the items'
pub leaves-text : (forest : Forest) {xs : List Answer} → OneLeafAnItem xs (leaves forest) → AreAnswers xs
    → text forest ≡ answers_text xs
leaves-text forest one_leaf_an_item are = text-leaves forest ∙ joined-answers one_leaf_an_item are

-- ---- the first of the items

-- the leaves are one for one the first items
pub record FirstLeaves (xs : List Answer) (ls : List PendingToken) : Type 0 where
  pub front : List Answer
  pub back : List Answer
  pub split : xs ≡ front ++ back
  pub leaves : OneLeafAnItem front ls
  pub text : joined ls ≡ answers_text front

pub first-leaves : (xs : List Answer) {these_sources : List Source} (more_sources : List Source)
    {ls : List PendingToken} → LeavesOf these_sources ls
    → these_sources ++ more_sources ≡ sources xs → FirstLeaves xs ls
first-leaves xs more_sources no_more e = record { front = []; back = xs; split = refl; leaves = nothing; text = refl }
first-leaves [] more_sources (one_more leaf_of leaves_of) e = absurd cc
first-leaves (limit_at index ∷ xs) more_sources (one_more leaf_of leaves_of) e =
    let f = first-leaves xs more_sources (one_more leaf_of leaves_of) e in
    record {
      front = limit_at index ∷ f.front;
      back = f.back;
      split = ap (λ (l : List Answer). limit_at index ∷ l) f.split;
      leaves = the_limit f.leaves;
      text = f.text;
    }
first-leaves (gives item ∷ xs) more_sources (one_more {pending_token = l} {ls = ls} leaf_of leaves_of) e =
    let f = first-leaves xs more_sources leaves_of (tail-same e) in
    let o = leaf-item item l (subst (λ x. LeafOf x l) (head-same e) leaf_of) in
    record {
      front = gives item ∷ f.front;
      back = f.back;
      split = ap (λ (l : List Answer). gives item ∷ l) f.split;
      leaves = one o.0 o.1 f.leaves;
      text = ap₂ (λ (a b : Text). a ++ b) o.0 f.text;
    }

-- the others are made of the answers that are left
pub first-leaves-left : (xs : List Answer) {these_sources : List Source} (more_sources : List Source)
    {ls : List PendingToken}
    (leaves_of : LeavesOf these_sources ls) (e : these_sources ++ more_sources ≡ sources xs)
    → sources (first-leaves xs more_sources leaves_of e).back ≡ more_sources
unfolding first-leaves
first-leaves-left xs more_sources no_more e = sym e
first-leaves-left [] more_sources (one_more leaf_of leaves_of) e = absurd cc
first-leaves-left (limit_at index ∷ xs) more_sources (one_more leaf_of leaves_of) e =
    first-leaves-left xs more_sources (one_more leaf_of leaves_of) e
first-leaves-left (gives item ∷ xs) more_sources (one_more leaf_of leaves_of) e =
    first-leaves-left xs more_sources leaves_of (tail-same e)

-- what the leaves of a root that was not left are made of
pub root-part : {this_rule : Rule} {state : State} (items : List Answer) (limit : ℕ) (this_kind : SyntaxKind)
    → walk leaf_check rules_deep this_rule anything always ≡ true
    → Runs this_rule (flush (begun items limit this_kind)) state
    → (these_trees : TreesWithSources) × FirstPart items state these_trees × Fit these_trees
unfolding flush
root-part {state = state} items limit this_kind c run =
    let before : State = begun items limit this_kind in
    let shown = (found (reading items (fresh items limit this_kind))).shown in
    let (f, a, e, h, g) = walked_root leaf_check Held sound items limit this_kind anything always run c
    (record { shown = shown; seen = seen-any (flush before) shown; fits = no_more }) in (
      append (set_aside before.pending) f,
      first-part items limit this_kind state (append (set_aside before.pending) f) g,
      fit-append (set_aside before.pending) f (fit-aside before.pending) h.fits,
    )

-- they are one for one the first items
pub root-leaves : {this_rule : Rule} {state : State} (items : List Answer) (limit : ℕ) (this_kind : SyntaxKind)
    → walk leaf_check rules_deep this_rule anything always ≡ true
    → Runs this_rule (flush (begun items limit this_kind)) state
    → FirstLeaves items (leaves state.tree.here)
root-leaves {state = state} items limit this_kind c run = let p = root-part items limit this_kind c run in
    subst (λ (x : Forest). FirstLeaves items (leaves x)) p.1.tree (first-leaves items (to_come state) p.2 p.1.order)
