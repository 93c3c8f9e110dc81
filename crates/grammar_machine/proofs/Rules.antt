-- A tree of the tables keeps the rules on leaves and names.
use Rattle.std.proofs.Common.{◌≡◌, ◌≢◌, ℕ, ◌-◌, ◌<◌, ◌^◌, Bool, true, false, not, eqb, ltb, List, [], ◌∷◌, get_or, refl}
use Rattle.std.proofs.Common.{sym, ap, ◌∙◌, subst, inl, inr, true≢false, append-nil, arith, eqb-true, lt-ltb}
use Rattle.document_grammar.proofs.Booleans.{false-true, and-l, and-r, or-c, either, implies, eqb-refl}
use Rattle.document_grammar.specs.Booleans.{◌and◌, ◌or◌}
use Rattle.document_grammar.specs.Derivation.{kinds, text, texts, Listed, LeafRule, NameRule, on_text, true_text}
use Rattle.document_grammar.specs.Derivation.{false_text, null_text}
use Rattle.document_grammar.specs.Kinds.{words, OPERATION_DEFINITION, SELECTION_SET, FRAGMENT_NAME, ENUM_VALUE}
use Rattle.document_grammar.specs.Kinds.{VARIABLE, DEFAULT_VALUE, DOCUMENT, IDENT, STRING}
use Rattle.document_grammar.specs.Pattern.{Pattern, any_of, one, Matches}
use Rattle.document_grammar.specs.Rows.{Row, keyword_operation}
use Rattle.document_grammar.specs.Tree.{Text, Tree, leaf, node, Forest, none, ◌▸◌, root}
use Rattle.grammar_machine.proofs.Checks.{all_entries, all_below, all_from}
use Rattle.grammar_machine.proofs.FromMachineTree.{show, shows, row-shown, show-root}
use Rattle.grammar_machine.proofs.Patterns.{derive_all, pattern_of, symbol_row, label}
use Rattle.grammar_machine.proofs.Sound.{fired, holds-one, leaf-lt}
use Rattle.grammar_machine.proofs.TableLemmas.{zero-plus, all-from-at, text-same, tail-same, no-cons, below-at}
use Rattle.grammar_machine.proofs.generated.Labels.{paths, labels}
use Rattle.grammar_machine.specs.Machine.{holds, is_leaf, at, arcs, has, entries, fires, class, word_class, text_eq}
use Rattle.grammar_machine.specs.Machine.{token, Ok, OkFrom}
use Rattle.grammar_machine.specs.Symbols.{TYPE, SHORT_QUERY, IDENT_FOR_FRAGMENT, IDENT_FOR_ENUM, NAME_FOR_FRAGMENT}
use Rattle.grammar_machine.specs.Symbols.{NAME_FOR_ENUM, BARE_SELECTIONS}
use Rattle.grammar_machine.specs.Table.{rows, firsts, name_leaves}

-- A test of each symbol and its label.
pub label-test : (t : ℕ → ℕ → Bool) → all_from 0 labels t ≡ true → (symbol : ℕ) → t symbol 0 ≡ true
    → t symbol (label symbol) ≡ true
unfolding label
label-test t h symbol d = subst (λ (n : ℕ). t n (get_or labels symbol 0) ≡ true) (zero-plus symbol)
    (all-from-at labels 0 symbol t 0 h (rw (zero-plus symbol) d))

-- Where one symbol alone has the label.
abbrev alone : ℕ → ℕ → ℕ → Bool
alone j i v = not (eqb v j) or eqb i j

pub label-alone : (j symbol : ℕ) → all_from 0 labels (alone j) ≡ true → eqb 0 j ≡ false → label symbol ≡ j → symbol ≡ j
unfolding ◌or◌
label-alone j symbol h z e =
    let c = label-test (alone j) h symbol (rw z refl) in
    let q : eqb (label symbol) j ≡ true = rw e (eqb-refl j) in
    eqb-true symbol j (implies _ _ c q)

pub labels-alone : (symbol : ℕ)
    → (label symbol ≡ VARIABLE → symbol ≡ VARIABLE) × (label symbol ≡ DEFAULT_VALUE → symbol ≡ DEFAULT_VALUE)
    × (label symbol ≡ DOCUMENT → symbol ≡ DOCUMENT)
    × (label symbol ≡ FRAGMENT_NAME → symbol ≡ FRAGMENT_NAME) × (label symbol ≡ ENUM_VALUE → symbol ≡ ENUM_VALUE)
unfolding labels ◌and◌ ◌or◌
labels-alone symbol = (
  label-alone VARIABLE symbol refl refl,
  label-alone DEFAULT_VALUE symbol refl refl,
  label-alone DOCUMENT symbol refl refl,
  label-alone FRAGMENT_NAME symbol refl refl,
  label-alone ENUM_VALUE symbol refl refl,
)

-- The row of a symbol.
paths-start : all_from 0 paths (λ n r. text_eq (get_or r 0 []) []) ≡ true
unfolding paths ◌and◌
paths-start = refl

pub start-pattern : (symbol : ℕ) → eqb symbol TYPE ≡ false → pattern_of symbol 0 ≡ symbol_row symbol
unfolding pattern_of
start-pattern symbol e =
    rw e (ap (derive_all (symbol_row symbol)) (text-same _ [] (all-from-at paths 0 (symbol - DOCUMENT)
    (λ n r. text_eq (get_or r 0 []) []) [] paths-start refl)))

pub symbol-row : (symbol : ℕ) (w : List ℕ) → eqb symbol BARE_SELECTIONS ≡ false → Matches (symbol_row symbol) w
    → Matches (Row (label symbol)) w
unfolding symbol_row label labels Row
symbol-row symbol w e matches = elim (either (eqb symbol OPERATION_DEFINITION)) [
  | inl p ↦ (let second_matches : Matches keyword_operation w = rw p at matches in
      rw (eqb-true _ _ p) (inr second_matches))
  | inr p ↦ elim (either (eqb symbol SHORT_QUERY)) [
    | inl q ↦ (let second_matches : Matches (one SELECTION_SET) w = rw (p, q) at matches in
        rw (eqb-true _ _ q) (inl second_matches))
    | inr q ↦ (rw (p, q, e) at matches)
  ]
]

-- Leaves.
pub listed : (ws : List (ℕ × Text)) (leaf_symbol : ℕ) (this_text : Text) → word_class ws this_text ≡ leaf_symbol
    → (leaf_symbol ≡ IDENT → ⊥)
    → Listed ws leaf_symbol this_text
listed [] leaf_symbol this_text e n = absurd (n (sym e))
listed (w ∷ more) leaf_symbol this_text e n = elim (either (text_eq w.1 this_text)) [
  | inl p ↦ inl (rw p at e, text-same w.1 this_text p)
  | inr p ↦ inr (listed more leaf_symbol this_text (rw p at e) n)
]

abbrev keyword_test : ℕ → Bool
keyword_test leaf_symbol =
    not (ltb STRING (label leaf_symbol)) or (eqb (label leaf_symbol) leaf_symbol and holds leaf_symbol name_leaves
    and all_entries (entries leaf_symbol) (λ x y a. eqb x (2 ^ leaf_symbol)))

keywords-checked : all_below DOCUMENT keyword_test ≡ true
unfolding ◌and◌ ◌or◌ holds label labels entries firsts
keywords-checked = refl

pub keyword-class : (leaf_symbol : ℕ) (this_text : Text) → holds leaf_symbol name_leaves ≡ true
    → class (token leaf_symbol this_text) ≡ word_class words this_text
unfolding class token
keyword-class leaf_symbol this_text h = rw h refl

above-string : (leaf_symbol : ℕ) → STRING < leaf_symbol → leaf_symbol ≡ IDENT → ⊥
above-string leaf_symbol h e = omega arith

pub leaf-rule : (leaf_symbol : ℕ) (this_text : Text) → Ok (leaf leaf_symbol this_text)
    → LeafRule (label leaf_symbol) this_text
unfolding fires
leaf-rule leaf_symbol x ok h =
    let c = implies _ _ (below-at keyword_test DOCUMENT leaf_symbol (leaf-lt leaf_symbol ok.0) keywords-checked)
    (lt-ltb _ _ h) in
    let e : label leaf_symbol ≡ leaf_symbol = eqb-true _ _ (and-l _ _ (and-l _ _ c)) in
    let d = fired (entries leaf_symbol) (λ x. eqb x (2 ^ leaf_symbol)) (class (token leaf_symbol x)) 0
    (and-r _ _ c) ok.1 in
    let k : class (token leaf_symbol x) ≡ leaf_symbol =
    holds-one (class (token leaf_symbol x)) leaf_symbol (rw (eqb-true _ _ d.1) at d.2) in
    let w : word_class words x ≡ label leaf_symbol =
    sym (keyword-class leaf_symbol x (and-r _ _ (and-l _ _ c))) ∙ (k ∙ sym e) in
    listed words (label leaf_symbol) x w (above-string (label leaf_symbol) h)

-- Names. A node whose row is one child, the symbol `j`.
abbrev HoldsOne : ℕ → ℕ → Type 0
HoldsOne symbol j = (is_leaf symbol ≡ false) × (eqb symbol TYPE ≡ false) × (pattern_of symbol 0 ≡ any_of (label j ∷ []))
    × (arcs symbol 0 ≡ (j, 1) ∷ [])

-- What is said of the child's text, is said of the node's.
child-text : (P : Text → Type 0) (symbol j : ℕ) (forest : Forest) → HoldsOne symbol j
    → ((tree : Tree) → root tree ≡ j → Ok tree → P (text (show tree)))
    → OkFrom symbol 0 forest
    → Matches (any_of (label j ∷ [])) (kinds (shows forest)) → P (texts (shows forest))
unfolding has ◌or◌
child-text P symbol j none holds_one h ok_from matches = no-cons matches.2
child-text P symbol j (tree ▸ none) holds_one h ok_from matches =
    rw (append-nil (text (show tree))) (h tree (elim (or-c (eqb j (root tree)) false (rw holds_one.3 at ok_from.0)) [
      | inl p ↦ sym
          (eqb-true j (root tree) p)
      | inr p ↦ false-true refl p
    ]) ok_from.1)
child-text P symbol j (tree ▸ (other_tree ▸ forest)) holds_one h ok_from matches = no-cons (sym (tail-same matches.2))

one-text : (P : Text → Type 0) (symbol j : ℕ) (forest : Forest) → HoldsOne symbol j
    → ((tree : Tree) → root tree ≡ j → Ok tree → P (text (show tree)))
    → OkFrom symbol 0 forest → P (texts (shows forest))
one-text P symbol j forest holds_one h ok_from = child-text P symbol j forest holds_one h ok_from
    (subst (λ (q : Pattern). Matches q (kinds (shows forest))) holds_one.2
    (row-shown symbol 0 forest holds_one.0 ok_from))

-- The leaf of a name's node is of the symbol `i`.
abbrev NameLeaf : ℕ → Text → Type 0
NameLeaf i this_text = fires i (class (token i this_text)) 0 ≡ true

leaf-text : (i : ℕ) → is_leaf i ≡ true → (tree : Tree) → root tree ≡ i → Ok tree → NameLeaf i (text (show tree))
leaf-text i li (leaf leaf_symbol this_text) e ok = rw e at ok.1
leaf-text i li (node symbol forest) e ok = false-true ok.0 (rw (← e) at li)

name-text : (j i : ℕ) → HoldsOne j i → is_leaf i ≡ true → (tree : Tree) → root tree ≡ j → Ok tree
    → NameLeaf i (text (show tree))
name-text j i holds_one li (leaf leaf_symbol this_text) e ok = false-true holds_one.0 (rw e at ok.0)
name-text j i holds_one li (node symbol forest) e ok =
    subst (λ (z : Tree). NameLeaf i (text z)) (sym (show-root symbol forest (rw e holds_one.1)))
    (one-text (NameLeaf i) j i forest holds_one (leaf-text i li) (rw e at ok.1))

refused : (this_text : Text)
    → (fires IDENT_FOR_FRAGMENT (class (token IDENT_FOR_FRAGMENT this_text)) 0 ≡ true → this_text ≢ on_text)
    × (fires IDENT_FOR_ENUM (class (token IDENT_FOR_ENUM this_text)) 0 ≡ true
    → (this_text ≢ true_text) × (this_text ≢ false_text) × (this_text ≢ null_text))
unfolding fires class token entries firsts holds words ◌or◌ ◌and◌
refused this_text = (
  (λ h e. true≢false (sym (rw e at h))),
  (λ h. (
    (λ e. true≢false (sym (rw e at h))),
    (λ e. true≢false (sym (rw e at h))),
    (λ e. true≢false (sym (rw e at h))),
  )),
)

fragment-leaf : (forest : Forest) → OkFrom FRAGMENT_NAME 0 forest → NameLeaf IDENT_FOR_FRAGMENT (texts (shows forest))
unfolding is_leaf pattern_of symbol_row label labels Row paths arcs at rows
fragment-leaf forest ok_from =
    one-text (NameLeaf IDENT_FOR_FRAGMENT) FRAGMENT_NAME NAME_FOR_FRAGMENT forest (refl, refl, refl, refl)
    (name-text NAME_FOR_FRAGMENT IDENT_FOR_FRAGMENT (refl, refl, refl, refl) refl) ok_from

enum-leaf : (forest : Forest) → OkFrom ENUM_VALUE 0 forest → NameLeaf IDENT_FOR_ENUM (texts (shows forest))
unfolding is_leaf pattern_of symbol_row label labels Row paths arcs at rows
enum-leaf forest ok_from = one-text (NameLeaf IDENT_FOR_ENUM) ENUM_VALUE NAME_FOR_ENUM forest (refl, refl, refl, refl)
    (name-text NAME_FOR_ENUM IDENT_FOR_ENUM (refl, refl, refl, refl) refl) ok_from

pub name-rule : (symbol : ℕ) (forest : Forest) → OkFrom symbol 0 forest → NameRule (label symbol) (shows forest)
name-rule symbol forest ok_from = (
  (λ e. (refused _).0 (fragment-leaf forest (rw ((labels-alone symbol).3 e) at ok_from))),
  (λ e. (refused _).1 (enum-leaf forest (rw ((labels-alone symbol).4 e) at ok_from))),
)
