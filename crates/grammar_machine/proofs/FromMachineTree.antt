-- A tree of the tables, shown as the tree of syntax kinds, is a derivation.
use Rattle.std.proofs.Common.{◌≡◌, ℕ, ◌+◌, Bool, true, false, cond, not, eqb, List, [], ◌∷◌, refl, sym, ap, ap₂, ◌∙◌}
use Rattle.std.proofs.Common.{subst, ◌⊎◌, inl, inr, true≢false, eqb-true}
use Rattle.std.proofs.lemmas.Bool.{false_from_ne_true}
use Rattle.document_grammar.proofs.Booleans.{false-true, and-l, and-r, or-c, or-l, or-r, implies, either, eqb-refl}
use Rattle.document_grammar.proofs.Booleans.{same-bool}
use Rattle.document_grammar.proofs.Nullable.{nullable}
use Rattle.document_grammar.specs.Booleans.{◌and◌, ◌or◌}
use Rattle.document_grammar.specs.Derivation.{kinds}
use Rattle.document_grammar.specs.Kinds.{VARIABLE, NAMED_TYPE, LIST_TYPE, NON_NULL_TYPE, DOCUMENT, SELECTION_SET}
use Rattle.document_grammar.specs.Kinds.{DEFAULT_VALUE, FRAGMENT_NAME, ENUM_VALUE}
use Rattle.document_grammar.specs.Pattern.{Pattern, any_of, nothing, ◌then◌, ◌or_else◌, many, member, Matches}
use Rattle.document_grammar.specs.Tree.{Tree, leaf, node, Forest, none, ◌▸◌, root}
use Rattle.grammar_machine.proofs.Checks.{exits}
use Rattle.grammar_machine.proofs.Patterns.{deriv, pattern_eq, pattern_of, label, shown, all_kinds, any_arcs, constant}
use Rattle.grammar_machine.proofs.Patterns.{begin_kinds, no_arc, is_live, agree_at, agree-checked, nullable-from}
use Rattle.grammar_machine.proofs.Patterns.{from-deriv}
use Rattle.grammar_machine.proofs.TableLemmas.{arcs-at, exits-at, state-test, text-same}
use Rattle.grammar_machine.proofs.generated.Labels.{labels}
use Rattle.grammar_machine.specs.Machine.{is_leaf, at, ends, arcs, has, has_in, target, target_in, state_arcs, finish}
use Rattle.grammar_machine.specs.Machine.{Ok, OkFrom}
use Rattle.grammar_machine.specs.Symbols.{TYPE, BARE_SELECTIONS}
use Rattle.grammar_machine.specs.Table.{State, rows}

-- A type's node is shown as its child, or with `!` as a NON_NULL_TYPE.
abbrev pub type_of : Forest → Tree
type_of none = node NON_NULL_TYPE none
type_of (tree ▸ none) = tree
type_of (tree ▸ (other_tree ▸ forest)) = node NON_NULL_TYPE (tree ▸ (other_tree ▸ forest))

abbrev pub build : ℕ → Forest → Tree
build symbol forest = cond (eqb symbol TYPE) (type_of forest) (node (label symbol) forest)

abbrev mutual
  pub show : Tree → Tree
  show (leaf leaf_symbol text) = leaf (label leaf_symbol) text
  show (node symbol forest) = build symbol (shows forest)

  pub shows : Forest → Forest
  shows none = none
  shows (tree ▸ forest) = show tree ▸ shows forest

-- Equal patterns.
pub pattern-same : (pattern other_pattern : Pattern) → pattern_eq pattern other_pattern ≡ true → pattern ≡ other_pattern
pattern-same (any_of ks) (any_of ls) h = ap any_of (text-same ks ls h)
pattern-same nothing nothing h = refl
pattern-same (pattern then other_pattern) (third_pattern then fourth_pattern) h =
    ap₂ (λ x y. x then y) (pattern-same pattern third_pattern (and-l _ _ h))
    (pattern-same other_pattern fourth_pattern (and-r _ _ h))
pattern-same (pattern or_else other_pattern) (third_pattern or_else fourth_pattern) h =
    ap₂ (λ x y. x or_else y) (pattern-same pattern third_pattern (and-l _ _ h))
    (pattern-same other_pattern fourth_pattern (and-r _ _ h))
pattern-same (many pattern) (many other_pattern) h = ap many (pattern-same pattern other_pattern h)
pattern-same _ _ h = absurd (true≢false (sym h))

-- Live states, which end a row or have an arc, agree with their patterns.
abbrev pub Live : State → Type 0
Live v = is_live v ≡ true

pub agree : (symbol state : ℕ) → is_leaf symbol ≡ false → Live (at symbol state) → agree_at symbol state ≡ true
unfolding ◌or◌
agree s q l v = implies _ _ (state-test (λ s q v. not (is_live v) or agree_at s q) agree-checked (λ s q. refl) s q l) v

-- The rows.
pub leaf-no-type : (leaf_symbol : ℕ) → is_leaf leaf_symbol ≡ true → eqb leaf_symbol TYPE ≡ false
unfolding is_leaf
leaf-no-type leaf_symbol h = false_from_ne_true _ (λ p. false-true refl (rw (eqb-true leaf_symbol TYPE p) at h))

pub type-arc : (child : ℕ) → has TYPE 0 child ≡ true → (child ≡ NAMED_TYPE) ⊎ (child ≡ LIST_TYPE)
unfolding has arcs at rows ◌or◌
type-arc child h = elim (or-c (eqb NAMED_TYPE child) (eqb LIST_TYPE child or false) h) [
  | inl p ↦ inl (sym (eqb-true _ _ p))
  | inr p ↦ elim (or-c (eqb LIST_TYPE child) false p)
      [ inl q ↦ inr (sym (eqb-true _ _ q)) | inr q ↦ absurd (true≢false (sym q)) ]
]

pub type-end : ends TYPE 0 ≡ false
unfolding ends at rows
type-end = refl

pub show-root : (symbol : ℕ) (forest : Forest) → eqb symbol TYPE ≡ false
    → show (node symbol forest) ≡ node (label symbol) (shows forest)
show-root symbol forest e = rw e refl

-- Symbols that are nodes, and what some symbols are shown as.
pub node-symbols : (is_leaf DOCUMENT ≡ false) × (is_leaf SELECTION_SET ≡ false) × (is_leaf BARE_SELECTIONS ≡ false)
    × (is_leaf TYPE ≡ false)
unfolding is_leaf
node-symbols = (refl, refl, refl, refl)

pub labels-checked : (label NAMED_TYPE ≡ NAMED_TYPE) × (label LIST_TYPE ≡ LIST_TYPE) × (label TYPE ≡ NAMED_TYPE)
    × (label DOCUMENT ≡ DOCUMENT)
    × (label SELECTION_SET ≡ SELECTION_SET) × (label BARE_SELECTIONS ≡ SELECTION_SET)
    × (label DEFAULT_VALUE ≡ DEFAULT_VALUE)
    × (label FRAGMENT_NAME ≡ FRAGMENT_NAME) × (label ENUM_VALUE ≡ ENUM_VALUE)
unfolding label labels
labels-checked = (refl, refl, refl, refl, refl, refl, refl, refl, refl)

pub shown-one : (child : ℕ) → eqb child TYPE ≡ false → member (label child) (shown child) ≡ true
unfolding shown member
shown-one child e = rw (e, eqb-refl (label child)) refl

pub type-child : (tree : Tree) → Ok tree → (root tree ≡ NAMED_TYPE) ⊎ (root tree ≡ LIST_TYPE)
    → (root (show tree) ≡ NAMED_TYPE) ⊎ (root (show tree) ≡ LIST_TYPE)
unfolding is_leaf
type-child (leaf leaf_symbol text) ok h =
    elim h [ inl p ↦ false-true refl (rw p at ok.0) | inr p ↦ false-true refl (rw p at ok.0) ]
type-child (node symbol forest) ok h = elim h [
  | inl p ↦ inl (subst (λ (n : ℕ). root (build n (shows forest)) ≡ NAMED_TYPE) (sym p) labels-checked.0)
  | inr p ↦ inr (subst (λ (n : ℕ). root (build n (shows forest)) ≡ LIST_TYPE) (sym p) labels-checked.1)
]

type-root : (forest : Forest) → OkFrom TYPE 0 forest → member (root (type_of (shows forest))) (shown TYPE) ≡ true
unfolding shown member
type-root none ok_from = false-true type-end ok_from
type-root (tree ▸ none) ok_from =
    elim (type-child tree ok_from.1 (type-arc (root tree) ok_from.0)) [ inl p ↦ rw p refl | inr p ↦ rw p refl ]
type-root (tree ▸ (other_tree ▸ forest)) ok_from = refl

pub shown-root : (tree : Tree) → Ok tree → member (root (show tree)) (shown (root tree)) ≡ true
shown-root (leaf leaf_symbol text) ok = shown-one leaf_symbol (leaf-no-type leaf_symbol ok.0)
shown-root (node symbol forest) ok = elim (either (eqb symbol TYPE)) [
  | inl p ↦ (let e : symbol ≡ TYPE = eqb-true symbol TYPE p in rw e (type-root forest (rw e at ok.1)))
  | inr p ↦ rw p (shown-one symbol p)
]

pub kinds-at : (ks : List ℕ) (t : ℕ → Bool) (j : ℕ) → all_kinds ks t ≡ true → member j ks ≡ true → t j ≡ true
unfolding member
kinds-at [] t j h m = absurd (true≢false (sym m))
kinds-at (child ∷ ks) t j h m = elim (either (eqb child j)) [
  | inl p ↦ subst (λ (n : ℕ). t n ≡ true) (eqb-true child j p) (and-l _ _ h)
  | inr p ↦ kinds-at ks t j (and-r _ _ h) (rw p at m)
]

pub has-live : (symbol state child : ℕ) → has symbol state child ≡ true → Live (at symbol state)
unfolding has arcs
has-live symbol state child h = or-r _ _ (has-arc (state_arcs (at symbol state)) h)
  where
    has-arc : (l : List (ℕ × ℕ)) → has_in l child ≡ true → not (no_arc l) ≡ true
    has-arc [] i = absurd (true≢false (sym i))
    has-arc (a ∷ more) i = refl

pub ends-live : (symbol state : ℕ) → ends symbol state ≡ true → Live (at symbol state)
unfolding ends
ends-live symbol state h = or-l _ _ h

-- What the agreement says of the end, of an arc, and of a kind.
pub agree-ends : (symbol state : ℕ) → agree_at symbol state ≡ true
    → nullable (pattern_of symbol state) ≡ ends symbol state
unfolding agree_at
agree-ends symbol state a = same-bool _ _ (and-l _ _ (and-l _ _ a))

pub agree-arc : (symbol state j : ℕ) (tree : Tree) → agree_at symbol state ≡ true
    → has symbol state (root tree) ≡ true → Ok tree
    → member j (shown (root tree)) ≡ true
    → deriv (pattern_of symbol state) j ≡ pattern_of symbol (target symbol state (root tree) + finish tree)
unfolding agree_at has target
agree-arc symbol state j tree a h ok m =
    let c = arcs-at (arcs symbol state) (λ k p. all_kinds (shown k) (λ j. exits k
    (λ x. pattern_eq (deriv (pattern_of symbol state) j) (pattern_of symbol (p + x))))) (root tree)
    (and-r _ _ (and-l _ _ a)) h in
    let d = kinds-at (shown (root tree)) (λ j. exits (root tree) (λ x. pattern_eq (deriv (pattern_of symbol state) j)
    (pattern_of symbol (target_in (arcs symbol state) (root tree) + x)))) j c m in
    pattern-same _ _ (exits-at tree
    (λ x. pattern_eq (deriv (pattern_of symbol state) j)
    (pattern_of symbol (target_in (arcs symbol state) (root tree) + x))) d
    ok)

pub agree-kind : (symbol state j : ℕ) → agree_at symbol state ≡ true
    → member j (begin_kinds (pattern_of symbol state)) ≡ true
    → ((constant symbol and eqb j VARIABLE) or any_arcs (arcs symbol state) (λ k p. member j (shown k))) ≡ true
unfolding agree_at
agree-kind symbol state j a m = kinds-at (begin_kinds (pattern_of symbol state))
    (λ j. (constant symbol and eqb j VARIABLE) or any_arcs (arcs symbol state) (λ k p. member j (shown k)))
    j (and-r _ _ a) m

pub row-shown : (symbol state : ℕ) (forest : Forest) → is_leaf symbol ≡ false → OkFrom symbol state forest
    → Matches (pattern_of symbol state) (kinds (shows forest))
row-shown symbol state none l ok_from = nullable-from (pattern_of symbol state)
    (agree-ends symbol state (agree symbol state l (ends-live symbol state ok_from)) ∙ ok_from)
row-shown symbol state (tree ▸ forest) l ok_from =
    let matches : Matches (pattern_of symbol (target symbol state (root tree) + finish tree)) (kinds (shows forest)) =
    row-shown symbol
    (target symbol state (root tree) + finish tree) forest l ok_from.2 in
    let d : deriv (pattern_of symbol state) (root (show tree))
    ≡ pattern_of symbol (target symbol state (root tree) + finish tree) = agree-arc symbol state
    (root (show tree)) tree (agree symbol state l (has-live symbol state (root tree) ok_from.0)) ok_from.0 ok_from.1
    (shown-root tree ok_from.1) in
    from-deriv (pattern_of symbol state) (root (show tree)) (kinds (shows forest))
    (subst (λ (p : Pattern). Matches p (kinds (shows forest))) (sym d) matches)
