-- A derivation is shown by a tree of the tables.
use Rattle.std.proofs.Common.{◌≡◌, ◌≢◌, ℕ, ◌+◌, ◌<◌, Bool, true, false, cond, not, eqb, ltb, List, [], ◌∷◌, ◌++◌, refl}
use Rattle.std.proofs.Common.{sym, ap, ap₂, ◌∙◌, subst, ◌⊎◌, inl, inr, true≢false, arith, eqb-true, append-nil}
use Rattle.std.proofs.Common.{ltb-true, ltb-false, ◌≤◌}
use Rattle.std.proofs.lemmas.Bool.{eqb-false, false_from_ne_true}
use Rattle.document_grammar.proofs.Booleans.{false-true, and-l, and-r, or-c, or-l, or-r, or-false, or-false-l}
use Rattle.document_grammar.proofs.Booleans.{or-false-r, not-c, either, same, same-bool, implies, eqb-refl}
use Rattle.document_grammar.proofs.Keywords.{all_words, listed-at}
use Rattle.document_grammar.proofs.Nullable.{nullable-to}
use Rattle.document_grammar.specs.Booleans.{◌and◌, ◌or◌}
use Rattle.document_grammar.specs.Choices.{Types}
use Rattle.document_grammar.specs.Derivation.{kinds, text, texts, LeafRule, NameRule, on_text, true_text, false_text}
use Rattle.document_grammar.specs.Derivation.{null_text, NoVariable, NoVariables, HasConstantDirectives}
use Rattle.document_grammar.specs.Derivation.{ConstantDirectives, ConstantRule, LacksBlock, NotBefore, BraceRule}
use Rattle.document_grammar.specs.Derivation.{IsQuery, Fits, AllFit, BareBy, Sort, document, selections, type}
use Rattle.document_grammar.specs.Derivation.{Derivation}
use Rattle.document_grammar.specs.Kinds.{words, WHITESPACE, ERROR, DOCUMENT, OPERATION_DEFINITION, SELECTION_SET, NAME}
use Rattle.document_grammar.specs.Kinds.{FRAGMENT_NAME, DIRECTIVES, VARIABLE, DEFAULT_VALUE, ENUM_VALUE, NON_NULL_TYPE}
use Rattle.document_grammar.specs.Kinds.{IDENT, STRING}
use Rattle.document_grammar.specs.Pattern.{Pattern, any_of, one, member, Matches}
use Rattle.document_grammar.specs.Rows.{Row, keyword_operation}
use Rattle.document_grammar.specs.Tree.{Text, Tree, leaf, node, Forest, none, ◌▸◌, root}
use Rattle.grammar_machine.proofs.BraceRule.{document-arc, finish-lacks}
use Rattle.grammar_machine.proofs.Checks.{every_arc, all_below}
use Rattle.grammar_machine.proofs.Endings.{ending, fillable}
use Rattle.grammar_machine.proofs.FromMachineTree.{kinds-at, pattern-same, show, shows, type_of, show-root, Live, agree}
use Rattle.grammar_machine.proofs.FromMachineTree.{agree-ends, agree-arc, agree-kind, has-live, ends-live, leaf-no-type}
use Rattle.grammar_machine.proofs.FromMachineTree.{node-symbols, labels-checked}
use Rattle.grammar_machine.proofs.Patterns.{all_kinds, deriv, pattern_of, symbol_row, type_row, label, shown, any_arcs}
use Rattle.grammar_machine.proofs.Patterns.{constant, agree_at, to-deriv, first-kind, never-none, pattern_eq}
use Rattle.grammar_machine.proofs.Rules.{start-pattern, keyword-class}
use Rattle.grammar_machine.proofs.ShownDerivation.{bare-pattern}
use Rattle.grammar_machine.proofs.Sound.{leaf-lt, fill-after, fill-start, fillable-ok}
use Rattle.grammar_machine.proofs.TableLemmas.{text-same, arc-test, head-same, tail-same, no-cons, below-at}
use Rattle.grammar_machine.proofs.TypeRule.{type-first, type-pattern}
use Rattle.grammar_machine.proofs.generated.Labels.{paths, labels}
use Rattle.grammar_machine.proofs.generated.Samples.{endings, spellings}
use Rattle.grammar_machine.specs.Machine.{holds, is_leaf, at, ends, exit, arcs, has, has_in, target, entries, fires}
use Rattle.grammar_machine.specs.Machine.{class, word_class, text_eq, token, finish, Ok, OkFrom}
use Rattle.grammar_machine.specs.Symbols.{TYPE, SHORT_QUERY, IDENT_FOR_FRAGMENT, IDENT_FOR_ENUM, NAME_FOR_FRAGMENT}
use Rattle.grammar_machine.specs.Symbols.{NAME_FOR_ENUM, BARE_SELECTIONS, DIRECTIVES_CONST, OBJECT_FIELD_CONST}
use Rattle.grammar_machine.specs.Table.{rows, firsts, name_leaves, token_kinds}

-- Symbols in constant places, and of names that refuse some words, with the nodes that hold them.
abbrev in_constant : ℕ → Bool
in_constant child = ltb NAME_FOR_ENUM child and ltb child BARE_SELECTIONS

abbrev is_fragment_name : ℕ → Bool
is_fragment_name child = eqb child NAME_FOR_FRAGMENT or eqb child IDENT_FOR_FRAGMENT

abbrev is_enum_name : ℕ → Bool
is_enum_name child = eqb child NAME_FOR_ENUM or eqb child IDENT_FOR_ENUM

-- The symbols that are no children: two leaves that are not read, and the selections without braces.
abbrev no_child : ℕ → Bool
no_child child = eqb child WHITESPACE or eqb child ERROR or ltb OBJECT_FIELD_CONST child

abbrev has_fragment_name : ℕ → Bool
has_fragment_name symbol = eqb symbol FRAGMENT_NAME or eqb symbol NAME_FOR_FRAGMENT

abbrev has_enum_name : ℕ → Bool
has_enum_name symbol = eqb symbol ENUM_VALUE or eqb symbol NAME_FOR_ENUM

abbrev NoWord : Text → Type 0
NoWord this_text = (this_text ≢ true_text) × (this_text ≢ false_text) × (this_text ≢ null_text)

abbrev AllTexts : (Text → Type 0) → Forest → Type 0
AllTexts P none = Unit {0}
AllTexts P (tree ▸ forest) = P (text tree) × AllTexts P forest

abbrev NotOn : Text → Type 0
NotOn this_text = this_text ≢ on_text

-- An operation that is a selection set is read as another symbol than one with a keyword.
abbrev child_kinds : Tree → List ℕ
child_kinds (leaf child this_text) = []
child_kinds (node child forest) = kinds forest

abbrev AsOperation : ℕ → Tree → Type 0
AsOperation child tree =
    (child ≡ OPERATION_DEFINITION → Matches keyword_operation (child_kinds tree)) × (child ≡ SHORT_QUERY
    → Matches (one SELECTION_SET) (child_kinds tree))

-- What the rules say of the children of a node that is read as the symbol `symbol`, and of a tree that is read as
-- `child`.
abbrev Kids : ℕ → Forest → Type 0
Kids symbol forest = (constant symbol ≡ true → NoVariables forest)
    × (member (label symbol) HasConstantDirectives ≡ true → ConstantDirectives forest)
    × (has_fragment_name symbol ≡ true → AllTexts NotOn forest) × (has_enum_name symbol ≡ true → AllTexts NoWord forest)

abbrev Cond : ℕ → Tree → Type 0
Cond child tree = (member (root tree) (shown child) ≡ true) × (in_constant child ≡ true → NoVariable tree)
    × (is_fragment_name child ≡ true
    → text tree ≢ on_text) × (is_enum_name child ≡ true → NoWord (text tree)) × AsOperation child tree
    × (no_child child ≡ false) × (is_leaf child ≡ false
    → fillable child 0 ≡ true)

kids-tail : (symbol : ℕ) (tree : Tree) (forest : Forest) → Kids symbol (tree ▸ forest) → Kids symbol forest
kids-tail symbol tree forest kids = ((λ e. (kids.0 e).1), (λ e. (kids.1 e).1), (λ e. (kids.2 e).1), (λ e. (kids.3 e).1))

abbrev child_test : ℕ → ℕ → ℕ → Bool
child_test symbol child state =
    (not (in_constant child)
    or (constant symbol or (member (label symbol) HasConstantDirectives and eqb child DIRECTIVES_CONST)))
    and (not (is_fragment_name child) or has_fragment_name symbol)
    and (not (is_enum_name child) or has_enum_name symbol)
    and (not (eqb child OPERATION_DEFINITION or eqb child SHORT_QUERY) or eqb symbol DOCUMENT) and not (no_child child)

child-checked : every_arc child_test ≡ true
unfolding ◌and◌ ◌or◌ rows label labels constant member
child-checked = refl

member-one : (child j : ℕ) → member child (j ∷ []) ≡ true → child ≡ j
unfolding member
member-one child j m = elim (either (eqb j child))
    [ inl p ↦ sym (eqb-true j child p) | inr p ↦ absurd (true≢false (sym (rw p at m))) ]

shown-directives : (j child : ℕ) → eqb child DIRECTIVES_CONST ≡ true → member j (shown child) ≡ true → j ≡ DIRECTIVES
unfolding shown label labels
shown-directives j child e m = member-one j DIRECTIVES (rw (eqb-true child DIRECTIVES_CONST e) at m)

kid-cond : (symbol state child : ℕ) (tree : Tree) (forest : Forest) → is_leaf symbol ≡ false
    → has symbol state child ≡ true
    → member (root tree) (shown child) ≡ true → AsOperation child tree
    → Kids symbol (tree ▸ forest) → Cond child tree
kid-cond symbol state child tree forest l h m as_operation kids =
    let c = arc-test child_test child-checked symbol state child l h in
    let c2 = and-l _ _ (and-l _ _ c) in
    let c1 = and-l _ _ c2 in (
      m,
      (λ e. elim (or-c _ _ (implies _ _ (and-l _ _ c1) e)) [
        | inl p ↦ (kids.0 p).0
        | inr p ↦ (kids.1 (and-l _ _ p)).0
            (shown-directives (root tree) child (and-r _ _ p) m)
      ]),
      (λ e. (kids.2 (implies _ _ (and-r _ _ c1) e)).0),
      (λ e. (kids.3 (implies _ _ (and-r _ _ c2) e)).0),
      as_operation,
      not-c _ (and-r _ _ c),
      (λ i. fill-start symbol state child l h i),
    )

-- Operations are children of a DOCUMENT alone.
as-no_operation : (child : ℕ) (tree : Tree) → ((eqb child OPERATION_DEFINITION or eqb child SHORT_QUERY) ≡ true → ⊥)
    → AsOperation child tree
as-no_operation child tree n = ((λ e. absurd (n (or-l _ _ (rw e refl)))), (λ e. absurd (n (or-r _ _ (rw e refl)))))

no-operation : (symbol state child : ℕ) (tree : Tree) → is_leaf symbol ≡ false → eqb symbol DOCUMENT ≡ false
    → has symbol state child ≡ true
    → AsOperation child tree
no-operation symbol state child tree l n h =
    let c = and-r _ _ (and-l _ _ (arc-test child_test child-checked symbol state child l h)) in
    as-no_operation child tree (λ e. false-true n (implies _ _ c e))

-- A node that asks nothing of its children, and a symbol that asks nothing of its tree but the kind.
unfoldable asks_nothing : ℕ → Bool
asks_nothing symbol = not
    (constant symbol or (member (label symbol) HasConstantDirectives
    or (has_fragment_name symbol or has_enum_name symbol)))

plain-kids : (symbol : ℕ) (forest : Forest) → asks_nothing symbol ≡ true → Kids symbol forest
unfolding asks_nothing
plain-kids symbol forest h = (
  (λ e. false-true (not-c _ h) (or-l _ _ e)),
  (λ e. false-true (not-c _ h) (or-r _ _ (or-l _ _ e))),
  (λ e. false-true (not-c _ h) (or-r _ _ (or-r _ _ (or-l _ _ e)))),
  (λ e. false-true (not-c _ h) (or-r _ _ (or-r _ _ (or-r _ _ e)))),
)

unfoldable plain : ℕ → Bool
plain child = not (no_child child or (eqb child OPERATION_DEFINITION or eqb child SHORT_QUERY)
    or (in_constant child or (is_fragment_name child or is_enum_name child))) and fillable child 0

plain-cond : (child : ℕ) (tree : Tree) → plain child ≡ true → member (root tree) (shown child) ≡ true → Cond child tree
unfolding plain
plain-cond child tree p m =
    let n = not-c _ (and-l _ _ p) in
    let no : (eqb child OPERATION_DEFINITION or eqb child SHORT_QUERY) ≡ true → ⊥ =
    λ e. false-true n (or-l _ _ (or-r _ _ e)) in (
      m,
      (λ e. false-true n (or-r _ _ (or-l _ _ e))),
      (λ e. false-true n (or-r _ _ (or-r _ _ (or-l _ _ e)))),
      (λ e. false-true n (or-r _ _ (or-r _ _ (or-r _ _ e)))),
      as-no_operation child tree no,
      or-false-l _ _ (or-false-l _ _ n),
      (λ i. and-r _ _ p),
    )

-- What computing says of single symbols.
symbols-checked : (asks_nothing DOCUMENT ≡ true) × (asks_nothing TYPE ≡ true) × (asks_nothing BARE_SELECTIONS ≡ true)
    × (plain DOCUMENT ≡ true) × (plain SELECTION_SET ≡ true) × (plain TYPE ≡ true)
    × (fillable BARE_SELECTIONS 0 ≡ true) × (fillable TYPE 0 ≡ true) × (ends TYPE 1 ≡ true)
unfolding asks_nothing plain constant label labels member is_leaf ◌or◌ ◌and◌ ends at rows fillable ending endings
    spellings has target arcs exit fires entries
    firsts holds class token words
symbols-checked = (refl, refl, refl, refl, refl, refl, refl, refl, refl)

-- The children's rules, from the node's.
all-texts : (P : Text → Type 0) (forest : Forest) (x : ℕ) → kinds forest ≡ x ∷ [] → P (texts forest) → AllTexts P forest
all-texts P none x e h = tt
all-texts P (tree ▸ none) x e h = (subst P (append-nil (text tree)) h, tt)
all-texts P (tree ▸ (other_tree ▸ forest)) x e h = no-cons (sym (tail-same e))

name-pattern : (symbol : ℕ) → has_fragment_name symbol or has_enum_name symbol ≡ true
    → (x : ℕ) × (pattern_of symbol 0 ≡ any_of (x ∷ []))
unfolding pattern_of symbol_row label labels Row paths
name-pattern symbol h = elim (or-c _ _ h) [
  | inl p ↦ elim (or-c _ _ p) [ inl q ↦ (NAME, rw (eqb-true _ _ q) refl) | inr q ↦ (IDENT, rw (eqb-true _ _ q) refl) ]
  | inr p ↦ elim (or-c _ _ p) [ inl q ↦ (NAME, rw (eqb-true _ _ q) refl) | inr q ↦ (IDENT, rw (eqb-true _ _ q) refl) ]
]

one-kind : (symbol : ℕ) (forest : Forest) → has_fragment_name symbol or has_enum_name symbol ≡ true
    → Matches (pattern_of symbol 0) (kinds forest)
    → (x : ℕ) × (kinds forest ≡ x ∷ [])
one-kind symbol forest h matches = let c = name-pattern symbol h in
    let second_matches : Matches (any_of (c.0 ∷ [])) (kinds forest) = subst
    (λ (p : Pattern). Matches p (kinds forest)) c.1 matches in (second_matches.0, second_matches.2)

cond-kids : (symbol j : ℕ) (forest : Forest) → label symbol ≡ j → Matches (pattern_of symbol 0) (kinds forest)
    → NameRule j forest → ConstantRule j forest
    → Cond symbol (node j forest) → Kids symbol forest
unfolding constant
cond-kids symbol j forest e matches name_rule constant_rule d = (
  (λ h. elim (or-c _ _ h)
      [ inl p ↦ constant_rule.0 (sym e ∙ rw (eqb-true symbol DEFAULT_VALUE p) labels-checked.6) | inr p ↦ (d.1 p).1 ]),
  (λ h. constant_rule.1 (rw e at h)),
  (λ h. let k = one-kind symbol forest (or-l _ _ h) matches in all-texts NotOn forest k.0 k.1
      (elim (or-c _ _ h) [
        | inl p ↦ name_rule.0 (sym e ∙ rw (eqb-true symbol FRAGMENT_NAME p) labels-checked.7)
        | inr p ↦
            d.2 (or-l _ _ p)
      ])),
  (λ h. let k = one-kind symbol forest (or-r _ _ h) matches in all-texts NoWord forest k.0 k.1
      (elim (or-c _ _ h) [
        | inl p ↦ name_rule.1 (sym e ∙ rw (eqb-true symbol ENUM_VALUE p) labels-checked.8)
        | inr p ↦
            d.3 (or-l _ _ p)
      ])),
)

-- Leaves.
-- A test of the class of a Name, which holds of each word but of those that the Name is not.
word-read : (ws : List (ℕ × Text)) (t : ℕ → Bool) (bad : Text → Bool) (this_text : Text)
    → all_words ws (λ k y. t k or bad y) ≡ true → t IDENT ≡ true
    → bad this_text ≡ false
    → t (word_class ws this_text) ≡ true
word-read [] t bad this_text h d n = d
word-read (w ∷ more) t bad this_text h d n = elim (either (text_eq w.1 this_text)) [
  | inl p ↦ rw p (elim (or-c _ _ (and-l _ _ h))
      [ inl q ↦ q | inr q ↦ false-true n (subst (λ (y : Text). bad y ≡ true) (text-same w.1 this_text p) q) ])
  | inr p ↦ rw p (word-read more t bad this_text (and-r _ _ h) d n)
]

abbrev leaf_read : ℕ → Bool
leaf_read child = eqb child WHITESPACE or eqb child ERROR or cond (holds child name_leaves)
    ((ltb STRING child and eqb (label child) child)
    or (eqb child IDENT or (eqb child IDENT_FOR_FRAGMENT or eqb child IDENT_FOR_ENUM)))
    (not (eqb child IDENT) and holds child token_kinds and fires child child 0)

leaf-reads-checked : all_below DOCUMENT leaf_read ≡ true
unfolding ◌and◌ ◌or◌ holds label labels fires entries firsts
leaf-reads-checked = refl

keywords-checked : all_words words (λ k y. fires k (word_class words y) 0) ≡ true
unfolding ◌and◌ ◌or◌ words fires entries firsts holds
keywords-checked = refl

abbrev on : Text → Bool
on this_text = text_eq this_text on_text

abbrev enum_word : Text → Bool
enum_word this_text = text_eq this_text true_text or text_eq this_text false_text or text_eq this_text null_text

names-checked : (all_words words (λ k y. fires IDENT k 0 or false) ≡ true)
    × (all_words words (λ k y. fires IDENT_FOR_FRAGMENT k 0 or on y) ≡ true)
    × (all_words words (λ k y. fires IDENT_FOR_ENUM k 0 or enum_word y) ≡ true)
    × (fires IDENT IDENT 0 ≡ true) × (fires IDENT_FOR_FRAGMENT IDENT 0 ≡ true) × (fires IDENT_FOR_ENUM IDENT 0 ≡ true)
unfolding ◌and◌ ◌or◌ words fires entries firsts holds
names-checked = (refl, refl, refl, refl, refl, refl)

unequal : (this_text other_text : Text) → this_text ≢ other_text → text_eq this_text other_text ≡ false
unequal this_text other_text n = false_from_ne_true _ (λ p. n (text-same this_text other_text p))

fires-fragment_name : (this_text : Text) → this_text ≢ on_text
    → fires IDENT_FOR_FRAGMENT (word_class words this_text) 0 ≡ true
fires-fragment_name this_text n =
    word-read words (λ k. fires IDENT_FOR_FRAGMENT k 0) on this_text names-checked.1 names-checked.4
    (unequal this_text on_text n)

fires-enum_name : (this_text : Text) → NoWord this_text → fires IDENT_FOR_ENUM (word_class words this_text) 0 ≡ true
fires-enum_name this_text no_word =
    word-read words (λ k. fires IDENT_FOR_ENUM k 0) enum_word this_text names-checked.2 names-checked.5
    (or-false (or-false (unequal this_text true_text no_word.0) (unequal this_text false_text no_word.1))
    (unequal this_text null_text no_word.2))

own-class : (child : ℕ) (this_text : Text) → holds child name_leaves ≡ false → eqb child IDENT ≡ false
    → holds child token_kinds ≡ true
    → class (token child this_text) ≡ child
unfolding class token
own-class child this_text h n t = rw (h, n, t) refl

keyword-fires : (child : ℕ) (this_text : Text) → LeafRule (label child) this_text
    → ltb STRING child and eqb (label child) child ≡ true
    → fires child (word_class words this_text) 0 ≡ true
keyword-fires k this_text leaf_rule p =
    let e : label k ≡ k = eqb-true _ _ (and-r _ _ p) in
    let second_leaf_rule : LeafRule k this_text = rw e at leaf_rule in
    listed-at words (λ k y. fires k (word_class words y) 0) k this_text keywords-checked
    (second_leaf_rule (ltb-true _ _ (and-l _ _ p)))

leaf-fires : (child : ℕ) (this_text : Text) → is_leaf child ≡ true → (eqb child WHITESPACE or eqb child ERROR) ≡ false
    → LeafRule (label child) this_text
    → (is_fragment_name child ≡ true → this_text ≢ on_text)
    → (is_enum_name child ≡ true → NoWord this_text) → fires child (class (token child this_text)) 0 ≡ true
leaf-fires k this_text l n leaf_rule fn en =
    elim (or-c _ _ (below-at leaf_read DOCUMENT k (leaf-lt k l) leaf-reads-checked)) [
      | inl p ↦ false-true n p
      | inr c ↦ elim (either (holds k name_leaves)) [
        | inl h ↦ (let c' : (ltb STRING k and eqb (label k) k)
            or (eqb k IDENT or (eqb k IDENT_FOR_FRAGMENT or eqb k IDENT_FOR_ENUM)) ≡ true = rw h at c in
            rw (keyword-class k this_text h) (elim (or-c _ _ c') [
              | inl p ↦ keyword-fires k this_text leaf_rule p
              | inr p ↦ elim (or-c _ _ p) [
                | inl q ↦ rw (eqb-true k IDENT q)
                    (word-read words (λ k. fires IDENT k 0) (λ y. false) this_text names-checked.0 names-checked.3 refl)
                | inr q ↦ elim (or-c _ _ q) [
                  | inl e ↦ rw (eqb-true k IDENT_FOR_FRAGMENT e) (fires-fragment_name this_text (fn (or-r _ _ e)))
                  | inr e ↦ rw (eqb-true k IDENT_FOR_ENUM e) (fires-enum_name this_text (en (or-r _ _ e)))
                ]
              ]
            ]))
        | inr h ↦ (let c' : not (eqb k IDENT) and holds k token_kinds and fires k k 0 ≡ true = rw h at c in
            rw (own-class k this_text h (not-c _ (and-l _ _ (and-l _ _ c'))) (and-r _ _ (and-l _ _ c'))) (and-r _ _ c'))
      ]
    ]

-- Readings.
abbrev pub Read : ℕ → Tree → Type 0
Read child tree = (other_tree : Tree) × Ok other_tree × (root other_tree ≡ child) × (show other_tree ≡ tree)

abbrev pub ReadFrom : ℕ → ℕ → Forest → Type 0
ReadFrom symbol state forest = (more_trees : Forest) × OkFrom symbol state more_trees × (shows more_trees ≡ forest)

shown-label : (j child : ℕ) → eqb child TYPE ≡ false → member j (shown child) ≡ true → label child ≡ j
unfolding shown
shown-label j child e m = sym (member-one j (label child) (rw e at m))

any-arc : (l : List (ℕ × ℕ)) (j : ℕ) → any_arcs l (λ k p. member j (shown k)) ≡ true
    → (k : ℕ) × (has_in l k ≡ true) × (member j (shown k) ≡ true)
any-arc [] j h = absurd (true≢false (sym h))
any-arc (a ∷ more) j h = elim (or-c _ _ h) [
  | inl p ↦ (a.0, or-l _ _ (eqb-refl a.0), p)
  | inr p ↦ (let r = any-arc more j p in (r.0, or-r _ _ r.1, r.2))
]

ok-live : (symbol state : ℕ) (forest : Forest) → OkFrom symbol state forest → Live (at symbol state)
ok-live symbol state none ok_from = ends-live symbol state ok_from
ok-live symbol state (tree ▸ forest) ok_from = has-live symbol state (root tree) ok_from.0

fill-live : (symbol state : ℕ) → fillable symbol state ≡ true → Live (at symbol state)
fill-live symbol state h = ok-live symbol state (ending symbol state) (fillable-ok symbol state h)

words-below : all_words words (λ k y. ltb k DOCUMENT) ≡ true
unfolding ◌and◌ words
words-below = refl

leaf-below : (j : ℕ) (this_text : Text) → LeafRule j this_text → DOCUMENT ≤ j → ⊥
leaf-below j this_text leaf_rule h = let b : STRING < j = omega arith in
    let l : j < DOCUMENT = ltb-true _ _
    (listed-at words (λ k y. ltb k DOCUMENT) j this_text words-below (leaf_rule b)) in omega arith

no-variable : (tree : Tree) → Fits tree → NoVariable tree → root tree ≡ VARIABLE → ⊥
no-variable (leaf j this_text) fits no_variable e = leaf-below j this_text fits (omega arith)
no-variable (node j forest) fits no_variable e = no_variable.0 e

read-end : (symbol state : ℕ) → agree_at symbol state ≡ true → Matches (pattern_of symbol state) []
    → ReadFrom symbol state none
read-end symbol state a matches =
    (none, sym (agree-ends symbol state a) ∙ nullable-to (pattern_of symbol state) [] refl matches, refl)

-- Leaves are shown as leaves, and nodes as nodes.
abbrev number_test : ℕ → Bool
number_test child = all_kinds (shown child) (λ j. same (ltb j DOCUMENT) (is_leaf child))

numbers-checked : all_below BARE_SELECTIONS number_test ≡ true
unfolding ◌and◌ shown label labels is_leaf
numbers-checked = refl

below-bare_selections : (child : ℕ) → no_child child ≡ false → child < BARE_SELECTIONS
below-bare_selections child h =
    let l : child ≤ OBJECT_FIELD_CONST = ltb-false OBJECT_FIELD_CONST child (or-false-r _ _ h) in omega arith

shown-leaf : (child j : ℕ) → no_child child ≡ false → member j (shown child) ≡ true → ltb j DOCUMENT ≡ is_leaf child
shown-leaf child j h m =
    let c = below-at number_test BARE_SELECTIONS child (below-bare_selections child h) numbers-checked in
    same-bool _ _ (kinds-at (shown child) (λ j. same (ltb j DOCUMENT) (is_leaf child)) j c m)

rows-of_leaves : all_below DOCUMENT (λ j. pattern_eq (Row j) (any_of [])) ≡ true
unfolding ◌and◌ ◌or◌ Row
rows-of_leaves = refl

no-row : {A : Type 0} (j : ℕ) (w : List ℕ) → j < DOCUMENT → Matches (Row j) w → A
no-row j w h matches =
    let e : Row j ≡ any_of [] =
    pattern-same _ _ (below-at (λ j. pattern_eq (Row j) (any_of [])) DOCUMENT j h rows-of_leaves) in
    never-none w (rw e at matches)

-- The row of a symbol, from the row of its kind.
symbol-row-from : (child j : ℕ) (forest : Forest) → label child ≡ j → child < BARE_SELECTIONS
    → AsOperation child (node j forest)
    → Matches (Row j) (kinds forest)
    → Matches (symbol_row child) (kinds forest)
unfolding symbol_row
symbol-row-from child j forest e b as_operation matches = elim (either (eqb child OPERATION_DEFINITION)) [
  | inl p ↦ rw p (as_operation.0 (eqb-true _ _ p))
  | inr p ↦ elim (either (eqb child SHORT_QUERY)) [
    | inl r ↦ rw (p, r) (as_operation.1 (eqb-true _ _ r))
    | inr r ↦ elim (either (eqb child BARE_SELECTIONS)) [
      | inl z ↦ (let x : child ≡ BARE_SELECTIONS = eqb-true _ _ z in absurd (omega arith))
      | inr z ↦ rw (p, r, z, e) matches
    ]
  ]
]

-- The children of a document lead through three states, and no query follows in the third, after a definition without
-- its block.
abbrev FirstNoQuery : Forest → Type 0
FirstNoQuery none = Unit {0}
FirstNoQuery (tree ▸ forest) = IsQuery tree → ⊥

abbrev InDocument : ℕ → ℕ → Forest → Type 0
InDocument symbol state forest =
    eqb symbol DOCUMENT ≡ true → (state < 3) × (state ≡ 2 → FirstNoQuery forest) × BraceRule forest

not-before : (tree : Tree) (forest : Forest) → NotBefore tree forest → LacksBlock tree → FirstNoQuery forest
not-before tree none not_before lacks_block = tt
not-before tree (other_tree ▸ forest) not_before lacks_block = not_before lacks_block

in-document-after : (symbol state child : ℕ) (tree : Tree) (forest : Forest) → has symbol state child ≡ true
    → (read : Read child tree)
    → InDocument symbol state (tree ▸ forest)
    → InDocument symbol (target symbol state (root read.0) + finish read.0) forest
in-document-after symbol state child tree forest h (u, o, e, w) in_document d =
    let x : symbol ≡ DOCUMENT = eqb-true symbol DOCUMENT d in
    let h' : has DOCUMENT state (root u) ≡ true = rw (x, ← e) at h in
    let a = document-arc state u h' o in
    let b = in_document d in
    let lacks : finish u ≡ 1 → LacksBlock tree = λ z. subst (λ (y : Tree). LacksBlock y) w (finish-lacks u o a.0 z) in
    rw x (omega (arith, a), (λ z. not-before tree forest b.2.0 (lacks (omega (arith, a, z)))), b.2.1)

-- An operation in a document is read by its children.
abbrev takes_operations : ℕ → Bool
takes_operations state = has DOCUMENT state OPERATION_DEFINITION and (eqb state 2 or has DOCUMENT state SHORT_QUERY)

operations-checked : all_below 3 takes_operations ≡ true
unfolding has arcs at rows ◌or◌ ◌and◌
operations-checked = refl

operation-kinds : (tree : Tree) → Fits tree → root tree ≡ OPERATION_DEFINITION
    → Matches (one SELECTION_SET) (child_kinds tree) ⊎ Matches keyword_operation (child_kinds tree)
unfolding Row
operation-kinds (leaf j this_text) fits e = absurd (leaf-below j this_text fits (omega arith))
operation-kinds (node j forest) fits e = subst (λ (n : ℕ). Matches (Row n) (kinds forest)) e fits.0

is-query : (tree : Tree) → root tree ≡ OPERATION_DEFINITION
    → Matches (one SELECTION_SET) (child_kinds tree) → IsQuery tree
is-query (leaf j this_text) e matches = no-cons matches.2
is-query (node j none) e matches = no-cons matches.2
is-query (node j (tree ▸ forest)) e matches = (e, head-same matches.2 ∙ member-one matches.0 SELECTION_SET matches.1)

shown-operation : (j child : ℕ) → (eqb child OPERATION_DEFINITION or eqb child SHORT_QUERY) ≡ true
    → member j (shown child) ≡ true → j ≡ OPERATION_DEFINITION
unfolding shown label labels
shown-operation j child h m = elim (or-c _ _ h) [
  | inl e ↦ member-one j OPERATION_DEFINITION
      (rw (eqb-true _ _ e) at m)
  | inr e ↦ member-one j OPERATION_DEFINITION (rw (eqb-true _ _ e) at m)
]

operation-shown : (j : ℕ) → j ≡ OPERATION_DEFINITION
    → (member j (shown SHORT_QUERY) ≡ true) × (member j (shown OPERATION_DEFINITION) ≡ true)
unfolding shown label labels member
operation-shown j e = (rw e refl, rw e refl)

-- The symbol as which a child is read.
abbrev Chosen : ℕ → ℕ → Tree → Type 0
Chosen symbol state tree =
    (child : ℕ) × (has symbol state child ≡ true) × (member (root tree) (shown child) ≡ true) × AsOperation child tree

choose-operation : (state : ℕ) (tree : Tree) → state < 3 → (state ≡ 2 → IsQuery tree → ⊥) → Fits tree
    → root tree ≡ OPERATION_DEFINITION
    → Chosen DOCUMENT state tree
choose-operation state tree i n fits e =
    let c = below-at takes_operations 3 state i operations-checked in
    elim (operation-kinds tree fits e) [
      | inl m ↦ elim (or-c _ _ (and-r _ _ c)) [
        | inl z ↦ absurd (n (eqb-true _ _ z) (is-query tree e m))
        | inr a ↦ (
          SHORT_QUERY,
          a,
          (operation-shown (root tree) e).0,
          ((λ z. absurd (eqb-false SHORT_QUERY OPERATION_DEFINITION refl z)), (λ z. m)),
        )
      ]
      | inr m ↦ (
        OPERATION_DEFINITION,
        and-l _ _ c,
        (operation-shown (root tree) e).1,
        ((λ z. m), (λ z. absurd (eqb-false OPERATION_DEFINITION SHORT_QUERY refl z))),
      )
    ]

chosen : (symbol state child : ℕ) (tree : Tree) (forest : Forest) → is_leaf symbol ≡ false → Fits tree
    → InDocument symbol state (tree ▸ forest)
    → has symbol state child ≡ true → member (root tree) (shown child) ≡ true
    → Chosen symbol state tree
chosen symbol state child tree forest l fits in_document a m = elim (either (eqb symbol DOCUMENT)) [
  | inl d ↦ elim (either (eqb (root tree) OPERATION_DEFINITION)) [
    | inl o ↦ rw (eqb-true symbol DOCUMENT d)
        (choose-operation state tree (in_document d).0 (in_document d).1 fits (eqb-true _ _ o))
    | inr o ↦ (child, a, m, as-no_operation child tree (λ z. eqb-false _ _ o (shown-operation (root tree) child z m)))
  ]
  | inr d ↦ (child, a, m, no-operation symbol state child tree l d a)
]

-- One child and those after it.
read-step : (symbol state : ℕ) (tree : Tree) (forest : Forest) → is_leaf symbol ≡ false
    → Matches (pattern_of symbol state) (root tree ∷ kinds forest)
    → agree_at symbol state ≡ true
    → Kids symbol (tree ▸ forest) → InDocument symbol state (tree ▸ forest) → Fits tree
    → ((child : ℕ) → Cond child tree → Read child tree)
    → ((p : ℕ) → Matches (pattern_of symbol p) (kinds forest) → agree_at symbol p ≡ true → InDocument symbol p forest
    → ReadFrom symbol p forest)
    → ReadFrom symbol state (tree ▸ forest)
unfolding has
read-step symbol state tree forest l matches a kids in_document fits rt rf =
    let dm : Matches (deriv (pattern_of symbol state) (root tree)) (kinds forest) =
    to-deriv (pattern_of symbol state) (root tree) (kinds forest) matches in
    elim (or-c _ _ (agree-kind symbol state (root tree) a
    (first-kind (pattern_of symbol state) (root tree) (kinds forest) dm))) [
      | inl v ↦ absurd (no-variable tree fits (kids.0 (and-l _ _ v)).0 (eqb-true _ _ (and-r _ _ v)))
      | inr v ↦ (let c = any-arc (arcs symbol state) (root tree) v in
          let k = chosen symbol state c.0 tree forest l fits in_document c.1 c.2 in
          let r = rt k.0 (kid-cond symbol state k.0 tree forest l k.1 k.2 k.3 kids) in
          let q' : ℕ = target symbol state (root r.0) + finish r.0 in
          let hu : has symbol state (root r.0) ≡ true = subst (λ (n : ℕ). has symbol state n ≡ true) (sym r.2) k.1 in
          let mu : member (root tree) (shown (root r.0)) ≡ true =
          subst (λ (n : ℕ). member (root tree) (shown n) ≡ true) (sym r.2) k.2 in
          let e : deriv (pattern_of symbol state) (root tree) ≡ pattern_of symbol q' =
          agree-arc symbol state (root tree) r.0 a hu r.1 mu in
          let live : Live (at symbol q') = fill-live symbol q' (fill-after symbol state r.0 l hu r.1) in
          let g = rf q' (subst (λ (z : Pattern). Matches z (kinds forest)) e dm) (agree symbol q' l live)
          (in-document-after symbol state k.0 tree forest k.1 r in_document) in
          (r.0 ▸ g.0, (hu, r.1, g.1), rw (r.3, g.2) refl))
    ]

-- Types.
type-two : (forest : Forest) (a b : ℕ) → kinds forest ≡ a ∷ b ∷ [] → type_of forest ≡ node NON_NULL_TYPE forest
type-two none a b e = no-cons e
type-two (tree ▸ none) a b e = no-cons (tail-same e)
type-two (tree ▸ (other_tree ▸ forest)) a b e = refl

row-non_null_type : (w : List ℕ) → Matches (Row NON_NULL_TYPE) w
    → (Matches type_row w) × ((a : ℕ) × (b : ℕ) × (w ≡ a ∷ b ∷ []))
unfolding Row
row-non_null_type w matches = (
  (matches.0, matches.1, matches.2, matches.3, inl matches.4),
  (matches.3.0, matches.4.0, matches.2 ∙ ap₂ (λ (x y : List ℕ). x ++ y) matches.3.2 matches.4.2),
)

wrap : (j : ℕ) (tree : Tree) → has TYPE 0 j ≡ true → Read j tree → Read TYPE tree
wrap j tree h (u, o, e, w) =
    let hu : has TYPE 0 (root u) ≡ true = rw e h in
    (node TYPE (u ▸ none), (node-symbols.3, (hu, o, rw (type-first u hu o) symbols-checked.8)), refl, w)

-- The children of a node are read so, in its row.
abbrev Reader : Forest → Type 0
Reader forest = (symbol : ℕ) → is_leaf symbol ≡ false → Matches (pattern_of symbol 0) (kinds forest)
    → agree_at symbol 0 ≡ true → Kids symbol forest
    → InDocument symbol 0 forest → ReadFrom symbol 0 forest

node-read : (child j : ℕ) (forest : Forest) → is_leaf child ≡ false → eqb child TYPE ≡ false → Fits (node j forest)
    → Cond child (node j forest) → Reader forest
    → Read child (node j forest)
node-read child j forest l n fits c rf =
    let e : label child ≡ j = shown-label j child n c.0 in
    let matches : Matches (symbol_row child) (kinds forest) =
    symbol-row-from child j forest e (below-bare_selections child c.5) c.4 fits.0 in
    let second_matches : Matches (pattern_of child 0) (kinds forest) = rw (start-pattern child n) matches in
    let in_document : InDocument child 0 forest = λ d. (
      omega arith,
      (λ z. absurd (omega arith)),
      fits.3 (sym e ∙ (ap label (eqb-true child DOCUMENT d) ∙ labels-checked.3)),
    ) in
    let g = rf child l second_matches (agree child 0 l (fill-live child 0 (c.6 l)))
    (cond-kids child j forest e second_matches fits.1 fits.2 c) in_document in
    (node child g.0, (l, g.1), refl, show-root child g.0 n ∙ ap₂ node e g.2)

-- The type with `!` has a row of its own. Others are the one child of the symbol of types.
abbrev type_test : ℕ → Bool
type_test j = eqb j NON_NULL_TYPE
    or (not (is_leaf j) and not (eqb j TYPE) and member j (shown j) and plain j and has TYPE 0 j)

types-checked : all_kinds (shown TYPE) type_test ≡ true
unfolding ◌and◌ ◌or◌ shown label labels member is_leaf plain fillable ending endings spellings ends has target arcs at
    rows exit fires entries firsts holds
    class token words
types-checked = refl

type-read : (j : ℕ) (forest : Forest) → Fits (node j forest) → member j (shown TYPE) ≡ true → Reader forest
    → Read TYPE (node j forest)
type-read j forest fits m rf = elim (or-c _ _ (kinds-at (shown TYPE) type_test j types-checked m)) [
  | inl y ↦ (let x : j ≡ NON_NULL_TYPE = eqb-true j NON_NULL_TYPE y in
      let r = row-non_null_type (kinds forest) (subst (λ (n : ℕ). Matches (Row n) (kinds forest)) x fits.0) in
      let matches : Matches (pattern_of TYPE 0) (kinds forest) = rw type-pattern r.0 in
      let g = rf TYPE node-symbols.3 matches (agree TYPE 0 node-symbols.3 (fill-live TYPE 0 symbols-checked.7))
      (plain-kids TYPE forest symbols-checked.1)
      (λ d. false-true refl d) in (
        node TYPE g.0,
        (node-symbols.3, g.1),
        refl,
        ap type_of g.2
            ∙ (type-two forest r.1.0 r.1.1 r.1.2 ∙ ap (λ (n : ℕ). node n forest) (sym x)),
      ))
  | inr p ↦ (let c = and-l _ _ (and-l _ _ p) in let n = and-l _ _ c in
      wrap j (node j forest) (and-r _ _ p) (node-read j j forest (not-c _ (and-l _ _ n)) (not-c _ (and-r _ _ n)) fits
      (plain-cond j (node j forest) (and-r _ _ (and-l _ _ p)) (and-r _ _ c)) rf))
]

pick-node : (child j : ℕ) (forest : Forest) → Fits (node j forest) → Cond child (node j forest) → Reader forest
    → Read child (node j forest)
pick-node child j forest fits c rf = elim (either (is_leaf child)) [
  | inl l ↦ no-row j (kinds forest) (ltb-true _ _ (shown-leaf child j c.5 c.0 ∙ l)) fits.0
  | inr l ↦ elim (either (eqb child TYPE)) [
    | inl n ↦ (let x : child ≡ TYPE = eqb-true child TYPE n in rw x (type-read j forest fits (rw x at c.0) rf))
    | inr n ↦ node-read child j forest l n fits c rf
  ]
]

leaf-any : (child j : ℕ) (this_text : Text) → LeafRule j this_text → Cond child (leaf j this_text)
    → Read child (leaf j this_text)
leaf-any child j this_text leaf_rule c = elim (either (is_leaf child)) [
  | inl l ↦ (let e : label child ≡ j = shown-label j child (leaf-no-type child l) c.0 in (
    leaf child this_text,
    (l, leaf-fires child this_text l (or-false-l _ _ c.5) (rw e leaf_rule) c.2 c.3),
    refl,
    ap (λ (n : ℕ). leaf n this_text) e,
  ))
  | inr l ↦ absurd (leaf-below j this_text leaf_rule (ltb-false _ _ (shown-leaf child j c.5 c.0 ∙ l)))
]

mutual
  pub read-tree : (tree : Tree) (child : ℕ) → Fits tree → Cond child tree → Read child tree
  read-tree (leaf j this_text) child fits c = leaf-any child j this_text fits c
  read-tree (node j forest) child fits c =
      pick-node child j forest fits c (λ s l m a d p. read-forest forest s 0 l m a d p fits.4)

  pub read-forest : (forest : Forest) (symbol state : ℕ) → is_leaf symbol ≡ false
      → Matches (pattern_of symbol state) (kinds forest)
      → agree_at symbol state ≡ true → Kids symbol forest → InDocument symbol state forest
      → AllFit forest → ReadFrom symbol state forest
  read-forest none symbol state l matches a kids in_document all_fit = read-end symbol state a matches
  read-forest (tree ▸ forest) symbol state l matches a kids in_document all_fit =
      read-step symbol state tree forest l matches a kids in_document all_fit.0 (λ k c. read-tree tree k all_fit.0 c)
      (λ q' m' a' p'. read-forest forest symbol q' l m' a' (kids-tail symbol tree forest kids) p' all_fit.1)

shown-start : (member DOCUMENT (shown DOCUMENT) ≡ true) × (member SELECTION_SET (shown SELECTION_SET) ≡ true)
unfolding shown label labels member
shown-start = (refl, refl)

types-shown : (j : ℕ) → member j Types ≡ true → member j (shown TYPE) ≡ true
unfolding shown member
types-shown j m = m

-- A selection set without braces.
bare-read : (tree : Tree) → root tree ≡ SELECTION_SET → BareBy Row tree → Read BARE_SELECTIONS tree
bare-read (leaf j this_text) e bare_by = absurd bare_by
bare-read (node j forest) e bare_by =
    let matches : Matches (pattern_of BARE_SELECTIONS 0) (kinds forest) =
    subst (λ (p : Pattern). Matches p (kinds forest)) (sym bare-pattern) bare_by.0 in
    let g = read-forest forest BARE_SELECTIONS 0 node-symbols.2 matches
    (agree BARE_SELECTIONS 0 node-symbols.2 (fill-live BARE_SELECTIONS 0 symbols-checked.6))
    (plain-kids BARE_SELECTIONS forest symbols-checked.2) (λ d. false-true refl d) bare_by.1 in (
      node BARE_SELECTIONS g.0,
      (node-symbols.2, g.1),
      refl,
      show-root BARE_SELECTIONS g.0 refl
          ∙ ap₂ node (labels-checked.5 ∙ sym e) g.2,
    )

-- The symbols as which a derivation of the sort may be read.
abbrev pub Opens : Sort → ℕ → Type 0
Opens document child = child ≡ DOCUMENT
Opens selections child = (child ≡ SELECTION_SET) ⊎ (child ≡ BARE_SELECTIONS)
Opens type child = child ≡ TYPE

-- Each derivation is shown by a tree of the tables.
pub derivation-read : (sort : Sort) (tree : Tree) → Derivation tree sort
    → (child : ℕ) × Opens sort child × Read child tree
derivation-read document tree derivation = (
  DOCUMENT,
  refl,
  read-tree tree DOCUMENT derivation.1
      (plain-cond DOCUMENT tree symbols-checked.3
      (subst (λ (n : ℕ). member n (shown DOCUMENT) ≡ true) (sym derivation.0) shown-start.0)),
)
derivation-read selections tree derivation = elim derivation.1 [
  | inl f ↦ (
    SELECTION_SET,
    inl refl,
    read-tree tree SELECTION_SET f (plain-cond SELECTION_SET tree symbols-checked.4
        (subst (λ (n : ℕ). member n (shown SELECTION_SET) ≡ true) (sym derivation.0) shown-start.1)),
  )
  | inr b ↦ (BARE_SELECTIONS, inr refl, bare-read tree derivation.0 b)
]
derivation-read type tree derivation = (
  TYPE,
  refl,
  read-tree tree TYPE derivation.1
      (plain-cond TYPE tree symbols-checked.5 (types-shown (root tree) derivation.0)),
)
