-- How deep the trees of the tables nest: the nesting of the open nodes, and of a derivation, is the nesting of the tree
-- in the end.
use Rattle.std.proofs.Common.{◌≡◌, ℕ, ◌+◌, ◌≤◌, max, List, [], ◌∷◌, ap, arith, refl, ap₂, ◌∙◌, ◌⊎◌, inl, inr, eqb}
use Rattle.std.proofs.Common.{eqb-true, true}
use Rattle.document_grammar.proofs.Booleans.{either, false-true}
use Rattle.document_grammar.proofs.Nested.{weight, weight-none, weight-no_value, uncounted, belows-append, belows-same}
use Rattle.document_grammar.specs.Booleans.{◌and◌}
use Rattle.document_grammar.specs.Derivation.{nest, below, belows, counts}
use Rattle.document_grammar.specs.Kinds.{DOCUMENT, NAMED_TYPE, LIST_TYPE, NON_NULL_TYPE}
use Rattle.document_grammar.specs.Pattern.{member}
use Rattle.document_grammar.specs.Tree.{Token, Tree, leaf, node, Forest, none, ◌▸◌, ◌+++◌, root, Text}
use Rattle.grammar_machine.proofs.Checks.{all_below}
use Rattle.grammar_machine.proofs.FromMachineTree.{show, shows, type_of, type-child, type-arc, type-end, labels-checked}
use Rattle.grammar_machine.proofs.Patterns.{label}
use Rattle.grammar_machine.proofs.Run.{Left, Upper}
use Rattle.grammar_machine.proofs.Sound.{leaf-lt}
use Rattle.grammar_machine.proofs.TableLemmas.{below-at}
use Rattle.grammar_machine.proofs.generated.Labels.{labels}
use Rattle.grammar_machine.specs.Machine.{Frame, frame, Ok, OkFrom, target, finish, is_leaf}
use Rattle.grammar_machine.specs.Symbols.{TYPE}

-- A tree of the tables in the kinds as which its symbols are shown: the node of a type stays.
abbrev mutual
  pub relabel : Tree → Tree
  relabel (leaf leaf_symbol text) = leaf (label leaf_symbol) text
  relabel (node symbol forest) = node (label symbol) (relabels forest)

  pub relabels : Forest → Forest
  relabels none = none
  relabels (tree ▸ forest) = relabel tree ▸ relabels forest

root-relabel : (tree : Tree) → root (relabel tree) ≡ label (root tree)
root-relabel (leaf leaf_symbol text) = refl
root-relabel (node symbol forest) = refl

relabels-append : (forest more_trees : Forest)
    → relabels (forest +++ more_trees) ≡ relabels forest +++ relabels more_trees
relabels-append none more_trees = refl
relabels-append (tree ▸ forest) more_trees = ap (λ (h : Forest). relabel tree ▸ h) (relabels-append forest more_trees)

-- Whether a child of the symbol `child` in a node of the symbol `symbol` is counted; how deep the children of such a
-- node nest; and a tree, which counts as a child of a DOCUMENT does.
abbrev pub count_in : ℕ → ℕ → ℕ
count_in symbol child = counts (label symbol) (label child)

abbrev pub nestings : ℕ → Forest → ℕ
nestings symbol forest = belows (label symbol) (relabels forest)

abbrev pub nesting_all : Tree → ℕ
nesting_all tree = count_in DOCUMENT (root tree) + below (relabel tree)

-- Children and one more tree.
nestings-then : (symbol : ℕ) (forest : Forest) (tree : Tree) (more_trees : Forest)
    → nestings symbol (forest +++ (tree ▸ more_trees)) ≡ max (nestings symbol forest)
    (max (count_in symbol (root tree) + below (relabel tree)) (nestings symbol more_trees))
nestings-then symbol forest tree more_trees =
    ap (belows (label symbol)) (relabels-append forest (tree ▸ more_trees))
    ∙ belows-append (label symbol) (relabels forest) (relabels (tree ▸ more_trees))
    ∙ ap (λ (k : ℕ). max (nestings symbol forest)
    (max (counts (label symbol) k + below (relabel tree)) (nestings symbol more_trees))) (root-relabel tree)

-- The counted nodes among the open ones and a child of the symbol `child`, and among the open ones alone.
abbrev pub depth_above : List Frame → ℕ → ℕ
depth_above [] child = count_in DOCUMENT child
depth_above (frame symbol state forest ∷ fs) child = depth_above fs symbol + count_in symbol child

abbrev pub depth : List Frame → ℕ
depth [] = 0
depth (frame symbol state forest ∷ fs) = depth_above fs symbol

-- They are at most those of each tree of which the open nodes are the left part.
upper-depth : (fs : List Frame) (tree : Tree) (rest : List Token) (other_tree : Tree) → Upper fs tree rest other_tree
    → depth_above fs (root tree) + below (relabel tree) ≤ nesting_all other_tree
upper-depth [] tree rest other_tree upper =
    let e : nesting_all tree ≡ nesting_all other_tree = ap nesting_all upper.0 in omega arith
upper-depth (frame symbol state forest ∷ fs) tree rest other_tree upper =
    let b : depth_above fs symbol + nestings symbol (forest +++ (tree ▸ upper.0)) ≤ nesting_all other_tree =
    upper-depth fs
    (node symbol (forest +++ (tree ▸ upper.0))) upper.1 other_tree upper.4 in
    omega (arith, nestings-then symbol forest tree upper.0)

pub left-depth : (fs : List Frame) (rest : List Token) (tree : Tree) → Left fs rest tree → depth fs ≤ nesting_all tree
left-depth [] rest tree left = absurd left
left-depth (frame symbol state forest ∷ fs) rest tree left =
    let b : depth_above fs symbol + nestings symbol (forest +++ left.0) ≤ nesting_all tree = upper-depth fs
    (node symbol (forest +++ left.0)) left.1 tree left.4 in
    omega arith

-- A derivation nests as deep as its tree of the tables. A child's part, under a parent of the kind `j`:
abbrev part_of : ℕ → Tree → ℕ
part_of j tree = weight j (root tree) + below tree

type-weights : (j : ℕ) → (weight j NAMED_TYPE ≡ 0) × (weight j NON_NULL_TYPE ≡ 0)
unfolding member ◌and◌
type-weights j = (weight-none j NAMED_TYPE refl, weight-none j NON_NULL_TYPE refl)

type-weight : (j child : ℕ) → (child ≡ NAMED_TYPE) ⊎ (child ≡ LIST_TYPE) → weight j child ≡ weight NAMED_TYPE child
unfolding member
type-weight j child h =
    elim h [
      | inl p ↦ weight-no_value j NAMED_TYPE child (rw p refl)
      | inr p ↦
          weight-no_value j NAMED_TYPE child (rw p refl)
    ]

type-belows : (forest : Forest) → belows NON_NULL_TYPE forest ≡ belows NAMED_TYPE forest
unfolding member
type-belows forest = belows-same NON_NULL_TYPE NAMED_TYPE forest refl refl

type-part : (j : ℕ) (forest : Forest) → OkFrom TYPE 0 forest
    → belows NAMED_TYPE (shows forest) ≡ belows NAMED_TYPE (relabels forest)
    → part_of j (type_of (shows forest)) ≡ weight j NAMED_TYPE + belows NAMED_TYPE (relabels forest)
unfolding weight
type-part j none ok_from h = false-true type-end ok_from
type-part j (tree ▸ none) ok_from h =
    let w = type-weight j (root (show tree)) (type-child tree ok_from.1 (type-arc (root tree) ok_from.0)) in
    let z = type-weights j in
    omega (arith, w, z, h)
type-part j (tree ▸ (other_tree ▸ forest)) ok_from h =
    let z = type-weights j in
    let e = type-belows (shows (tree ▸ (other_tree ▸ forest))) in
    omega (arith, z, e, h)

mutual
  unfolding weight

  part : (tree : Tree) (j : ℕ) → Ok tree → part_of j (show tree) ≡ part_of j (relabel tree)
  part (leaf leaf_symbol text) j ok = refl
  part (node symbol forest) j ok = elim (either (eqb symbol TYPE)) [
    | inl e ↦ (let x : symbol ≡ TYPE = eqb-true symbol TYPE e in let h = parts forest symbol 0 ok.1 in
        rw (e, x, labels-checked.2) (type-part j forest (rw x at ok.1) (rw (x, labels-checked.2) at h)))
    | inr e ↦ rw e (ap (λ (n : ℕ). weight j (label symbol) + n) (parts forest symbol 0 ok.1))
  ]

  parts : (forest : Forest) (symbol state : ℕ) → OkFrom symbol state forest
      → belows (label symbol) (shows forest) ≡ nestings symbol forest
  parts none symbol state ok_from = refl
  parts (tree ▸ forest) symbol state ok_from = ap₂ (λ (x y : ℕ). max x y) (part tree (label symbol) ok_from.1)
      (parts forest symbol (target symbol state (root tree) + finish tree) ok_from.2)

pub nest-show : (tree : Tree) → Ok tree → nest (show tree) ≡ nesting_all tree
unfolding weight label labels
nest-show tree ok = part tree DOCUMENT ok ∙ ap (λ (k : ℕ). counts DOCUMENT k + below (relabel tree)) (root-relabel tree)

-- The greatest number of counted nodes that were open at once is the nesting of the tree in the end: a counter that a
-- parser raises to the depth at each node that it opens holds it. Below each open node are the counted nodes of the
-- children that it has so far.
abbrev pub peak : List Frame → ℕ
peak [] = 0
peak (frame symbol state forest ∷ fs) = max (depth_above fs symbol + nestings symbol forest) (peak fs)

-- It starts with the root's own. A node opens; it ends; a leaf, which counts nothing, is read.
pub peak-start : (symbol : ℕ) → peak (frame symbol 0 none ∷ []) ≡ depth_above [] symbol
peak-start symbol = omega arith

pub peak-open : (symbol state child : ℕ) (forest : Forest) (fs : List Frame)
    → peak (frame child 0 none ∷ frame symbol state forest ∷ fs) ≡ max (peak (frame symbol state forest ∷ fs))
    (depth_above (frame symbol state forest ∷ fs) child)
peak-open symbol state child forest fs = omega arith

pub peak-close : (symbol state p child o : ℕ) (forest more_trees : Forest) (fs : List Frame)
    → peak (frame symbol p (forest +++ (node child more_trees ▸ none)) ∷ fs)
    ≡ peak (frame child o more_trees ∷ frame symbol state forest ∷ fs)
peak-close symbol state p child o forest more_trees fs =
    omega (arith, nestings-then symbol forest (node child more_trees) none)

leaves-checked : all_below DOCUMENT (λ l. uncounted (label l)) ≡ true
unfolding ◌and◌ label labels member
leaves-checked = refl

pub peak-shift : (symbol state p leaf_symbol : ℕ) (text : Text) (forest : Forest) (fs : List Frame)
    → is_leaf leaf_symbol ≡ true
    → peak (frame symbol p (forest +++ (leaf leaf_symbol text ▸ none)) ∷ fs) ≡ peak (frame symbol state forest ∷ fs)
unfolding weight
peak-shift symbol state p l text forest fs i =
    let z = weight-none (label symbol) (label l)
    (below-at (λ l. uncounted (label l)) DOCUMENT l (leaf-lt l i) leaves-checked) in
    omega (arith, z, nestings-then symbol forest (leaf l text) none)

-- At the end it is the nesting of the tree.
pub peak-end : (symbol state : ℕ) (forest : Forest)
    → peak (frame symbol state forest ∷ []) ≡ nesting_all (node symbol forest)
peak-end symbol state forest = omega arith
