-- A tree of the tables is shown as a derivation, with the tokens of the tree.
use Rattle.std.proofs.Common.{◌≡◌, ℕ, ◌+◌, Bool, true, false, cond, not, eqb, ltb, List, [], ◌∷◌, ◌++◌, refl, sym, ap}
use Rattle.std.proofs.Common.{ap₂, ◌∙◌, subst, inl, inr, true≢false, eqb-true, append-nil}
use Rattle.document_grammar.proofs.Booleans.{false-true, and-l, and-r, or-c, not-c, either}
use Rattle.document_grammar.specs.Booleans.{◌and◌, ◌or◌}
use Rattle.document_grammar.specs.Choices.{Types, is_ignored}
use Rattle.document_grammar.specs.Derivation.{kinds, Fits, AllFit, BareBy, Sort, document, selections, type, Derivation}
use Rattle.document_grammar.specs.Derivation.{Spells, Yield, Yields}
use Rattle.document_grammar.specs.Kinds.{DOCUMENT, SELECTION_SET, L_CURLY, IDENT, STRING, WHITESPACE}
use Rattle.document_grammar.specs.Pattern.{Pattern, member, Matches}
use Rattle.document_grammar.specs.Rows.{Row, bare_selections}
use Rattle.document_grammar.specs.Tree.{Text, Token, Tree, leaf, node, Forest, none, ◌▸◌, root}
use Rattle.grammar_machine.proofs.BraceRule.{brace-rule}
use Rattle.grammar_machine.proofs.Checks.{all_below}
use Rattle.grammar_machine.proofs.ConstantRule.{constant-rule, no-bare-selections}
use Rattle.grammar_machine.proofs.FromMachineTree.{show, shows, build, type_of, row-shown, show-root, shown-root}
use Rattle.grammar_machine.proofs.FromMachineTree.{node-symbols, labels-checked}
use Rattle.grammar_machine.proofs.Patterns.{label, shown, pattern_of, symbol_row}
use Rattle.grammar_machine.proofs.Rules.{labels-alone, name-rule, leaf-rule, start-pattern, symbol-row}
use Rattle.grammar_machine.proofs.Sound.{leaf-lt}
use Rattle.grammar_machine.proofs.TableLemmas.{below-at}
use Rattle.grammar_machine.proofs.TypeRule.{type-fits}
use Rattle.grammar_machine.proofs.generated.Labels.{paths, labels}
use Rattle.grammar_machine.specs.Machine.{holds, is_leaf, target, opening, entries, fires, class, yield, yields, token}
use Rattle.grammar_machine.specs.Machine.{finish, Ok, OkFrom, Path}
use Rattle.grammar_machine.specs.Symbols.{TYPE, BARE_SELECTIONS}
use Rattle.grammar_machine.specs.Table.{firsts, name_leaves}

node-fits : (symbol : ℕ) (forest : Forest) → Ok (node symbol forest) → eqb symbol BARE_SELECTIONS ≡ false
    → AllFit (shows forest)
    → Fits (show (node symbol forest))
node-fits symbol forest ok n all_fit = elim (either (eqb symbol TYPE)) [
  | inl e ↦ rw e (type-fits forest (subst (λ (z : ℕ). OkFrom z 0 forest) (eqb-true symbol TYPE e) ok.1) all_fit)
  | inr e ↦ subst (λ (z : Tree). Fits z) (sym (show-root symbol forest e)) (
    symbol-row symbol (kinds (shows forest)) n
        (subst (λ (p : Pattern). Matches p (kinds (shows forest))) (start-pattern symbol e)
        (row-shown symbol 0 forest ok.0 ok.1)),
    name-rule symbol forest ok.1,
    constant-rule symbol forest ok.0 ok.1,
    (λ i. brace-rule 0 forest (subst (λ (z : ℕ). OkFrom z 0 forest) ((labels-alone symbol).2 i) ok.1)),
    all_fit,
  )
]

mutual
  pub ok-fits : (tree : Tree) → Ok tree → eqb (root tree) BARE_SELECTIONS ≡ false → Fits (show tree)
  ok-fits (leaf leaf_symbol text) ok n = leaf-rule leaf_symbol text ok
  ok-fits (node symbol forest) ok n = node-fits symbol forest ok n (ok-all-fit symbol 0 forest ok.0 ok.1)

  pub ok-all-fit : (symbol state : ℕ) (forest : Forest) → is_leaf symbol ≡ false → OkFrom symbol state forest
      → AllFit (shows forest)
  ok-all-fit symbol state none l ok_from = tt
  ok-all-fit symbol state (tree ▸ forest) l ok_from = (
    ok-fits tree ok_from.1 (no-bare-selections symbol state (root tree) l ok_from.0),
    ok-all-fit symbol (target symbol state (root tree) + finish tree) forest l ok_from.2,
  )

pub path-fits : (symbol p state : ℕ) (forest : Forest) → is_leaf symbol ≡ false → Path symbol p forest state
    → AllFit (shows forest)
path-fits symbol p state none l path = tt
path-fits symbol p state (tree ▸ forest) l path = (
  ok-fits tree path.1 (no-bare-selections symbol p (root tree) l path.0),
  path-fits symbol (target symbol p (root tree) + finish tree) state forest l path.2,
)

-- The tokens of the shown tree are those of the tree.
abbrev token_test : ℕ → Bool
token_test leaf_symbol =
    eqb leaf_symbol WHITESPACE or (eqb (cond (ltb STRING (label leaf_symbol)) IDENT (label leaf_symbol))
    (cond (holds leaf_symbol name_leaves) IDENT leaf_symbol) and not (is_ignored (label leaf_symbol)))

tokens-checked : all_below DOCUMENT token_test ≡ true
unfolding label labels holds ◌and◌ ◌or◌
tokens-checked = refl

-- No tree has a leaf WHITESPACE.
no-zero : (leaf_symbol : ℕ) (b : ℕ) → fires leaf_symbol b 0 ≡ true → leaf_symbol ≡ WHITESPACE → ⊥
unfolding fires entries firsts
no-zero leaf_symbol b h e = true≢false (sym (rw e at h))

leaf-yield : (leaf_symbol : ℕ) (text : Text) → Ok (leaf leaf_symbol text)
    → Yield (leaf (label leaf_symbol) text) ≡ token leaf_symbol text ∷ []
unfolding token
leaf-yield leaf_symbol text ok =
    elim (or-c _ _ (below-at token_test DOCUMENT leaf_symbol (leaf-lt leaf_symbol ok.0) tokens-checked)) [
      | inl p ↦ absurd (no-zero leaf_symbol (class (token leaf_symbol text)) ok.1 (eqb-true leaf_symbol WHITESPACE p))
      | inr p ↦ rw (not-c _ (and-r _ _ p)) (ap (λ (n : ℕ). (n, text) ∷ []) (eqb-true _ _ (and-l _ _ p)))
    ]

yield-type : (forest : Forest) → Yield (type_of forest) ≡ Yields forest
yield-type none = refl
yield-type (tree ▸ none) = sym (append-nil (Yield tree))
yield-type (tree ▸ (other_tree ▸ forest)) = refl

yield-build : (symbol : ℕ) (forest : Forest) → Yield (build symbol forest) ≡ Yields forest
yield-build symbol forest = elim (either (eqb symbol TYPE)) [ inl e ↦ rw e (yield-type forest) | inr e ↦ rw e refl ]

mutual
  pub show-yield : (tree : Tree) → Ok tree → Yield (show tree) ≡ yield tree
  show-yield (leaf leaf_symbol text) ok = leaf-yield leaf_symbol text ok
  show-yield (node symbol forest) ok = yield-build symbol (shows forest) ∙ shows-yields symbol 0 forest ok.1

  pub shows-yields : (symbol state : ℕ) (forest : Forest) → OkFrom symbol state forest
      → Yields (shows forest) ≡ yields forest
  shows-yields symbol state none ok_from = refl
  shows-yields symbol state (tree ▸ forest) ok_from = ap₂ (λ (x y : List Token). x ++ y) (show-yield tree ok_from.1)
      (shows-yields symbol (target symbol state (root tree) + finish tree) forest ok_from.2)

-- A parse is shown as a derivation of its sort.
root-shown : (symbol : ℕ) (tree : Tree) → is_leaf symbol ≡ false → eqb symbol TYPE ≡ false → Ok tree
    → root tree ≡ symbol → root (show tree) ≡ label symbol
root-shown symbol (leaf leaf_symbol text) i n ok e = false-true i (rw e at ok.0)
root-shown symbol (node child forest) i n ok e = ap root (show-root child forest (rw (← e) at n)) ∙ ap label e

pub bare-pattern : pattern_of BARE_SELECTIONS 0 ≡ bare_selections
unfolding pattern_of symbol_row label labels Row paths
bare-pattern = refl

bare-fits : (tree : Tree) → Ok tree → root tree ≡ BARE_SELECTIONS → BareBy Row (show tree)
unfolding is_leaf
bare-fits (leaf leaf_symbol text) ok e = false-true refl (rw e at ok.0)
bare-fits (node symbol forest) ok e =
    let ok_from : OkFrom BARE_SELECTIONS 0 forest = subst (λ (n : ℕ). OkFrom n 0 forest) e ok.1 in
    let n : is_leaf BARE_SELECTIONS ≡ false = refl in
    let matches : Matches bare_selections (kinds (shows forest)) =
    subst (λ (p : Pattern). Matches p (kinds (shows forest))) bare-pattern
    (row-shown BARE_SELECTIONS 0 forest n ok_from) in
    subst (λ (z : Tree). BareBy Row z)
    (sym (ap (λ (n : ℕ). show (node n forest)) e ∙ show-root BARE_SELECTIONS forest refl)) (
      matches,
      ok-all-fit BARE_SELECTIONS 0 forest n ok_from,
    )

type-shown : (tree : Tree) → Ok tree → root tree ≡ TYPE → member (root (show tree)) Types ≡ true
unfolding shown
type-shown tree ok e = rw e at (shown-root tree ok)

pub ok-derivation : (sort : Sort) (a : ℕ) (tree : Tree) → Ok tree → root tree ≡ opening sort a
    → Derivation (show tree) sort
ok-derivation document a tree ok e =
    (root-shown DOCUMENT tree node-symbols.0 refl ok e ∙ labels-checked.3, ok-fits tree ok (rw e refl))
ok-derivation selections a tree ok e = elim (either (eqb a L_CURLY)) [
  | inl p ↦ (let e' : root tree ≡ SELECTION_SET = rw p at e in (
    root-shown SELECTION_SET tree node-symbols.1 refl ok e' ∙ labels-checked.4,
    inl (ok-fits tree ok (rw e' refl)),
  ))
  | inr p ↦ (let e' : root tree ≡ BARE_SELECTIONS = rw p at e in (
    root-shown BARE_SELECTIONS tree node-symbols.2 refl ok e' ∙ labels-checked.5,
    inr (bare-fits tree ok e'),
  ))
]
ok-derivation type a tree ok e = (type-shown tree ok e, ok-fits tree ok (rw e refl))

-- Soundness: a tree that the machine makes of the tokens is shown as a derivation of them.
pub parse-sentence : (sort : Sort) (a : ℕ) (tokens : List Token) (tree : Tree) → Ok tree
    → root tree ≡ opening sort a → yield tree ≡ tokens
    → Spells tokens (show tree) sort
parse-sentence sort a tokens tree ok e y = (ok-derivation sort a tree ok e, show-yield tree ok ∙ y)
