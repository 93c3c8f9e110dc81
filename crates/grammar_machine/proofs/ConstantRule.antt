-- A tree of the tables keeps the rule on constants.
use Rattle.std.proofs.Common.{◌≡◌, ◌≢◌, ℕ, zero, suc, ◌+◌, ◌^◌, Bool, true, false, cond, not, eqb, List, [], ◌∷◌, refl}
use Rattle.std.proofs.Common.{subst, inl, inr, arith, bit_or}
use Rattle.document_grammar.proofs.Booleans.{false-true, and-l, and-r, and-i, not-c, either, implies}
use Rattle.document_grammar.specs.Booleans.{◌and◌, ◌or◌}
use Rattle.document_grammar.specs.Derivation.{NoVariable, NoVariables, HasConstantDirectives, ConstantDirectives}
use Rattle.document_grammar.specs.Derivation.{ConstantRule}
use Rattle.document_grammar.specs.Kinds.{DOCUMENT, DIRECTIVES, VARIABLE, DEFAULT_VALUE}
use Rattle.document_grammar.specs.Pattern.{member}
use Rattle.document_grammar.specs.Tree.{Tree, leaf, node, Forest, none, ◌▸◌, root}
use Rattle.grammar_machine.proofs.Checks.{all_arcs, all_from, every_arc}
use Rattle.grammar_machine.proofs.FromMachineTree.{show, shows, build, type_of, shown-root}
use Rattle.grammar_machine.proofs.Patterns.{label, shown}
use Rattle.grammar_machine.proofs.Rules.{labels-alone}
use Rattle.grammar_machine.proofs.TableLemmas.{arc-test}
use Rattle.grammar_machine.proofs.generated.Labels.{labels}
use Rattle.grammar_machine.specs.Machine.{holds, is_leaf, has, target, state_arcs, finish, Ok, OkFrom}
use Rattle.grammar_machine.specs.Symbols.{TYPE, BARE_SELECTIONS}
use Rattle.grammar_machine.specs.Table.{State, rows}

-- The symbols above a VARIABLE, as a set: a symbol joins it whose row has an arc to one of the set. Each step goes over
-- the rows, from the last one to the first. The test of all arcs, below, shows that the steps are enough.
abbrev leads_to : ℕ → List State → Bool
leads_to set row = not (all_from 0 row (λ q v. all_arcs (state_arcs v) (λ k p. not (holds k set))))

abbrev with_parent : ℕ → List State → ℕ → ℕ
with_parent symbol row set = cond (leads_to set row) (bit_or (2 ^ symbol) set) set

abbrev with_parents : ℕ → List (List State) → ℕ → ℕ
with_parents symbol [] set = set
with_parents symbol (row ∷ more) set = with_parent symbol row (with_parents (suc symbol) more set)

abbrev after_steps : ℕ → ℕ
after_steps zero = 2 ^ VARIABLE
after_steps (suc n) = with_parents DOCUMENT rows (after_steps n)

unfoldable above_variable : ℕ
above_variable = after_steps 8

-- the symbols that are no VARIABLE and can have none below them
abbrev outside : ℕ → ℕ → Bool
outside set symbol = not (holds symbol set)

abbrev variable_free : ℕ → Bool
variable_free symbol = outside above_variable symbol

-- Along an arc: below a symbol with no VARIABLE below it there is none either, nor below the DIRECTIVES of one whose
-- directives are constant; and no node has the selections without braces below it.
abbrev arc_test : ℕ → ℕ → ℕ → ℕ → Bool
arc_test set symbol child state = (not (outside set symbol) or outside set child)
    and (not (member (label symbol) HasConstantDirectives and member DIRECTIVES (shown child)) or outside set child)
    and not (eqb child BARE_SELECTIONS)

arcs-checked : every_arc (arc_test above_variable) ≡ true
unfolding above_variable holds member ◌and◌ ◌or◌ rows label labels shown
arcs-checked = refl

along : (symbol state child : ℕ) → is_leaf symbol ≡ false → has symbol state child ≡ true
    → (variable_free symbol ≡ true → variable_free child ≡ true)
    × (member (label symbol) HasConstantDirectives ≡ true → member DIRECTIVES (shown child) ≡ true
    → variable_free child ≡ true)
    × (eqb child BARE_SELECTIONS ≡ false)
along symbol state child l h =
    let c = arc-test (arc_test above_variable) arcs-checked symbol state child l h in (
      implies _ _ (and-l _ _ (and-l _ _ c)),
      (λ m n. implies _ _ (and-r _ _ (and-l _ _ c)) (and-i m n)),
      not-c _ (and-r _ _ c),
    )

pub no-bare-selections : (symbol state child : ℕ) → is_leaf symbol ≡ false → has symbol state child ≡ true
    → eqb child BARE_SELECTIONS ≡ false
no-bare-selections symbol state child l h = (along symbol state child l h).2

variable-free-kinds : (variable_free VARIABLE ≡ false) × (variable_free DEFAULT_VALUE ≡ true)
unfolding above_variable holds rows ◌and◌
variable-free-kinds = (refl, refl)

variable-free-is-none : (symbol : ℕ) → variable_free symbol ≡ true → label symbol ≢ VARIABLE
variable-free-is-none symbol p e = false-true variable-free-kinds.0 (rw ((labels-alone symbol).0 e) at p)

no-variable-type : (forest : Forest) → NoVariables forest → NoVariable (type_of forest)
no-variable-type none no_variables = ((λ e. absurd (omega arith)), tt)
no-variable-type (tree ▸ none) no_variables = no_variables.0
no-variable-type (tree ▸ (other_tree ▸ forest)) no_variables = ((λ e. absurd (omega arith)), no_variables)

no-variable-build : (symbol : ℕ) (forest : Forest) → variable_free symbol ≡ true → NoVariables forest
    → NoVariable (build symbol forest)
no-variable-build symbol forest p no_variables = elim (either (eqb symbol TYPE)) [
  | inl e ↦ rw e (no-variable-type forest no_variables)
  | inr e ↦ rw e (variable-free-is-none symbol p, no_variables)
]

mutual
  variable-free-tree : (tree : Tree) → Ok tree → variable_free (root tree) ≡ true → NoVariable (show tree)
  variable-free-tree (leaf leaf_symbol text) ok p = tt
  variable-free-tree (node symbol forest) ok p =
      no-variable-build symbol (shows forest) p (variable-free-forest symbol 0 forest ok.0 p ok.1)

  variable-free-forest : (symbol state : ℕ) (forest : Forest) → is_leaf symbol ≡ false → variable_free symbol ≡ true
      → OkFrom symbol state forest
      → NoVariables (shows forest)
  variable-free-forest symbol state none l p ok_from = tt
  variable-free-forest symbol state (tree ▸ forest) l p ok_from = (
    variable-free-tree tree ok_from.1 ((along symbol state (root tree) l ok_from.0).0 p),
    variable-free-forest symbol (target symbol state (root tree) + finish tree) forest l p ok_from.2,
  )

constant-directives : (symbol state : ℕ) (forest : Forest) → is_leaf symbol ≡ false
    → member (label symbol) HasConstantDirectives ≡ true
    → OkFrom symbol state forest → ConstantDirectives (shows forest)
constant-directives symbol state none l m ok_from = tt
constant-directives symbol state (tree ▸ forest) l m ok_from = (
  (λ e. variable-free-tree tree ok_from.1 ((along symbol state (root tree) l ok_from.0).1 m
      (subst (λ (n : ℕ). member n (shown (root tree)) ≡ true) e (shown-root tree ok_from.1)))),
  constant-directives symbol (target symbol state (root tree) + finish tree) forest l m ok_from.2,
)

pub constant-rule : (symbol : ℕ) (forest : Forest) → is_leaf symbol ≡ false → OkFrom symbol 0 forest
    → ConstantRule (label symbol) (shows forest)
constant-rule symbol forest l ok_from = (
  (λ e. let n : symbol ≡ DEFAULT_VALUE = (labels-alone symbol).1 e in
      variable-free-forest symbol 0 forest l (rw n variable-free-kinds.1) ok_from),
  (λ m. constant-directives symbol 0 forest l m ok_from),
)
