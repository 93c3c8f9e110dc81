-- The machine's node of a type: where no `!` follows it, it is shown as its one child, and else as a NON_NULL_TYPE,
-- which fits its row.
use Rattle.std.proofs.Common.{◌≡◌, ℕ, ◌+◌, true, eqb, List, ◌∷◌, ◌++◌, refl, sym, ap₂, ◌∙◌, subst, inl, inr, arith}
use Rattle.std.proofs.Common.{eqb-true}
use Rattle.document_grammar.proofs.Booleans.{false-true}
use Rattle.document_grammar.specs.Booleans.{◌and◌, ◌or◌}
use Rattle.document_grammar.specs.Derivation.{kinds, NameRule, ConstantRule, BraceRule, Fits, AllFit}
use Rattle.document_grammar.specs.Kinds.{DOCUMENT, NON_NULL_TYPE}
use Rattle.document_grammar.specs.Pattern.{Pattern, member, Matches}
use Rattle.document_grammar.specs.Rows.{Row}
use Rattle.document_grammar.specs.Tree.{Tree, Forest, none, ◌▸◌, root}
use Rattle.grammar_machine.proofs.Checks.{all_arcs, exits}
use Rattle.grammar_machine.proofs.FromMachineTree.{type-end, show, shows, type_of, row-shown, node-symbols}
use Rattle.grammar_machine.proofs.Patterns.{label, pattern_of, symbol_row, type_row}
use Rattle.grammar_machine.proofs.TableLemmas.{tail-same, no-cons, arcs-at, exits-at}
use Rattle.grammar_machine.proofs.generated.Labels.{paths, labels}
use Rattle.grammar_machine.specs.Machine.{is_leaf, at, arcs, has, target, finish, Ok, OkFrom}
use Rattle.grammar_machine.specs.Symbols.{TYPE}
use Rattle.grammar_machine.specs.Table.{rows}

type-arcs : all_arcs (arcs TYPE 0) (λ k q. exits k (λ x. eqb (q + x) 1)) ≡ true
unfolding arcs at rows exits is_leaf ◌and◌ ◌or◌
type-arcs = refl

pub type-first : (tree : Tree) → has TYPE 0 (root tree) ≡ true → Ok tree → target TYPE 0 (root tree) + finish tree ≡ 1
unfolding has target
type-first tree h ok =
    eqb-true _ _ (exits-at tree (λ x. eqb (target TYPE 0 (root tree) + x) 1)
    (arcs-at (arcs TYPE 0) (λ k q. exits k (λ x. eqb (q + x) 1)) (root tree) type-arcs h) ok)

pub type-pattern : pattern_of TYPE 0 ≡ type_row
unfolding pattern_of symbol_row label labels Row paths
type-pattern = refl

-- A type of two children and more has the row of NON_NULL_TYPE.
two-children : (a b : ℕ) (w v : List ℕ) → w ≡ a ∷ b ∷ v → Matches type_row w → Matches (Row NON_NULL_TYPE) w
unfolding Row
two-children a b w v e matches = elim matches.4 [
  | inl x ↦ (matches.0, matches.1, matches.2, matches.3, x)
  | inr x ↦ no-cons (sym (tail-same (sym e ∙ (matches.2 ∙ ap₂ (λ (x y : List ℕ). x ++ y) matches.3.2 x))))
]

rules-non_null_type : (forest : Forest)
    → NameRule NON_NULL_TYPE forest × ConstantRule NON_NULL_TYPE forest × (◌≡◌ {A = ℕ} NON_NULL_TYPE DOCUMENT
    → BraceRule forest)
unfolding member
rules-non_null_type forest = (
  ((λ e. absurd (omega arith)), (λ e. absurd (omega arith))),
  ((λ e. absurd (omega arith)), (λ e. false-true refl e)),
  (λ e. absurd (omega arith)),
)

pub type-fits : (forest : Forest) → OkFrom TYPE 0 forest → AllFit (shows forest) → Fits (type_of (shows forest))
type-fits none ok_from all_fit = false-true type-end ok_from
type-fits (tree ▸ none) ok_from all_fit = all_fit.0
type-fits (tree ▸ (other_tree ▸ forest)) ok_from all_fit =
    let matches : Matches type_row (kinds (shows (tree ▸ (other_tree ▸ forest)))) = subst
    (λ (p : Pattern). Matches p (kinds (shows (tree ▸ (other_tree ▸ forest))))) type-pattern
    (row-shown TYPE 0 (tree ▸ (other_tree ▸ forest)) node-symbols.3 ok_from) in
    let second_matches : Matches (Row NON_NULL_TYPE) (kinds (shows (tree ▸ (other_tree ▸ forest)))) =
    two-children (root (show tree))
    (root (show other_tree)) _ _ refl matches in
    let r = rules-non_null_type (show tree ▸ (show other_tree ▸ shows forest)) in
    (second_matches, r.0, r.1, r.2, all_fit)
