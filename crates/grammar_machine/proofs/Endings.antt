-- Each state of a row that can be reached has a list of trees that ends it: they are exhibited, and checked by
-- computing.
use Rattle.std.proofs.Common.{◌≡◌, ℕ, zero, suc, ◌+◌, ◌-◌, ◌^◌, Bool, true, cond, not, eqb, List, [], ◌∷◌, get_or, refl}
use Rattle.document_grammar.specs.Booleans.{◌and◌, ◌or◌}
use Rattle.document_grammar.specs.Kinds.{words, DOCUMENT, ERROR}
use Rattle.document_grammar.specs.Tree.{Text, Tree, leaf, node, Forest, none, ◌▸◌, root}
use Rattle.grammar_machine.proofs.Checks.{subset, exits, all_entries, every_arc, all_below}
use Rattle.grammar_machine.proofs.generated.Follows.{name_classes}
use Rattle.grammar_machine.proofs.generated.Samples.{endings, spellings}
use Rattle.grammar_machine.specs.Machine.{holds, is_leaf, at, ends, exit, arcs, has, target, entries, fires, class}
use Rattle.grammar_machine.specs.Machine.{token, finish, text_eq}
use Rattle.grammar_machine.specs.Table.{rows, firsts, name_leaves}

abbrev plant : (ℕ → Tree) → List ℕ → Forest
plant f [] = none
plant f (child ∷ ks) = f child ▸ plant f ks

abbrev pub spell : ℕ → Text
spell leaf_symbol = get_or spellings leaf_symbol []

abbrev sample : ℕ → ℕ → Tree
sample zero child = leaf child []
sample (suc n) child = cond (is_leaf child) (leaf child (spell child))
    (node child (plant (λ j. sample n j) (get_or (get_or endings (child - DOCUMENT) []) 0 [])))

unfoldable pub ending : ℕ → ℕ → Forest
ending symbol state = plant (λ j. sample 7 j) (get_or (get_or endings (symbol - DOCUMENT) []) state [])

-- Trees that fit the rows, and whose leaves have the texts that are listed for them.
abbrev mutual
  pub okb : Tree → Bool
  okb (leaf leaf_symbol text) =
      is_leaf leaf_symbol and fires leaf_symbol (class (token leaf_symbol text)) 0 and text_eq (spell leaf_symbol) text
  okb (node symbol forest) = not (is_leaf symbol) and okb_from symbol 0 forest

  pub okb_from : ℕ → ℕ → Forest → Bool
  okb_from symbol state none = ends symbol state
  okb_from symbol state (tree ▸ forest) =
      has symbol state (root tree) and okb tree
      and okb_from symbol (target symbol state (root tree) + finish tree) forest

unfoldable pub fillable : ℕ → ℕ → Bool
fillable symbol state = okb_from symbol state (ending symbol state)

abbrev pub fill_test : ℕ → ℕ → ℕ → Bool
fill_test symbol child state = (is_leaf child or fillable child 0) and exits child (λ x. fillable symbol (state + x))

pub fill-checked : every_arc fill_test ≡ true
unfolding ◌and◌ ◌or◌ holds is_leaf at ends exit arcs has target entries fires class token words rows firsts exits
    endings spellings ending fillable
fill-checked = refl

-- The leaves' classes: those of names, or the leaf's own number.
abbrev pub leaf_test : ℕ → Bool
leaf_test leaf_symbol =
    all_entries (entries leaf_symbol) (λ x y a. cond (holds leaf_symbol name_leaves) (subset x name_classes)
    (eqb x (2 ^ leaf_symbol) and not (holds leaf_symbol name_classes) and not (eqb leaf_symbol ERROR)))

abbrev pub word_tests : List (ℕ × Text) → Bool
word_tests [] = true
word_tests (w ∷ more) = holds w.0 name_classes and word_tests more

pub leaf-classes-checked : all_below DOCUMENT leaf_test ≡ true
unfolding ◌and◌ ◌or◌ holds is_leaf entries firsts
leaf-classes-checked = refl

pub words-checked : word_tests words ≡ true
unfolding ◌and◌ ◌or◌ holds words
words-checked = refl
