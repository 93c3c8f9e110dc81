-- A tree of the tables keeps the rule on braces.
use Rattle.std.proofs.Common.{◌≡◌, ℕ, ◌+◌, ◌-◌, ◌<◌, Bool, true, false, cond, not, eqb, ltb, List, [], ◌∷◌, get_or}
use Rattle.std.proofs.Common.{refl, sym, ap, ◌∙◌, subst, arith, eqb-true, ltb-true}
use Rattle.document_grammar.proofs.Booleans.{false-true, and-l, and-r, or-r, or-false, or-false-l, or-false-r, or-assoc}
use Rattle.document_grammar.proofs.Booleans.{or-none, same, same-bool, not-c, implies}
use Rattle.document_grammar.specs.Booleans.{◌and◌, ◌or◌}
use Rattle.document_grammar.specs.Derivation.{kinds, Braced, Blocks, NoBlock, LacksBlock, StartsWithSelections, IsQuery}
use Rattle.document_grammar.specs.Derivation.{BraceRule}
use Rattle.document_grammar.specs.Kinds.{DOCUMENT, OPERATION_DEFINITION, SELECTION_SET}
use Rattle.document_grammar.specs.Pattern.{member}
use Rattle.document_grammar.specs.Tree.{Tree, leaf, node, Forest, none, ◌▸◌, root}
use Rattle.grammar_machine.proofs.Checks.{all_arcs, every_state, every_arc, exits}
use Rattle.grammar_machine.proofs.FromMachineTree.{kinds-at, show, shows, show-root, shown-root, node-symbols}
use Rattle.grammar_machine.proofs.Patterns.{all_kinds, label, shown}
use Rattle.grammar_machine.proofs.Rules.{label-test}
use Rattle.grammar_machine.proofs.TableLemmas.{arcs-at, arc-test, exits-at, state-test}
use Rattle.grammar_machine.proofs.generated.Labels.{paths, labels}
use Rattle.grammar_machine.specs.Machine.{is_leaf, at, ends, exit, arcs, has, target, target_in, state_arcs, state_ends}
use Rattle.grammar_machine.specs.Machine.{state_exit, finish, walk, Ok, OkFrom}
use Rattle.grammar_machine.specs.Symbols.{TYPE}
use Rattle.grammar_machine.specs.Table.{State, rows}

-- whether a list of trees has what opens the block of a definition
abbrev has_opener : List ℕ → Bool
has_opener [] = false
has_opener (child ∷ ks) = member child Blocks or has_opener ks

abbrev has_block : Forest → Bool
has_block forest = has_opener (kinds forest)

block-none : (forest : Forest) → NoBlock forest → has_block forest ≡ false
block-none none no_block = refl
block-none (tree ▸ forest) no_block = or-false no_block.0 (block-none forest no_block.1)

none-block : (forest : Forest) → has_block forest ≡ false → NoBlock forest
none-block none h = tt
none-block (tree ▸ forest) h = (or-false-l _ _ h, none-block forest (or-false-r _ _ h))

-- The states after the block of a row: what opens it is among the kinds of children that lead there.
unfoldable after_block : ℕ → ℕ → Bool
after_block symbol state = has_opener (get_or (get_or paths (symbol - DOCUMENT) []) state [])

abbrev block_arc : ℕ → ℕ → ℕ → ℕ → Bool
block_arc symbol state child p = all_kinds (shown child) (λ j. exits child
    (λ x. same (after_block symbol (p + x)) (after_block symbol state or member j Blocks)))

-- Only such definitions end without their block; a child leads past the block where it is one.
abbrev block_test : ℕ → ℕ → State → Bool
block_test symbol state v = (not (eqb (state_exit v) 1) or member symbol Braced)
    and (not (member symbol Braced) or (all_arcs (state_arcs v) (block_arc symbol state)
    and (not (state_ends v) or eqb (state_exit v) (cond (after_block symbol state) 0 1))))

blocks-checked : every_state block_test ≡ true
unfolding after_block paths ◌and◌ ◌or◌ is_leaf rows label labels shown member exits
blocks-checked = refl

block-state : (symbol state : ℕ) → is_leaf symbol ≡ false → block_test symbol state (at symbol state) ≡ true
unfolding ◌and◌ ◌or◌
block-state s q l = state-test block_test blocks-checked (λ s q. or-r _ _ refl) s q l

braced-checked : all_kinds Braced (λ s. eqb (label s) s and not (after_block s 0)) ≡ true
unfolding after_block paths label labels member ◌and◌ ◌or◌
braced-checked = refl

block-walk : (symbol state : ℕ) (forest : Forest) → is_leaf symbol ≡ false → member symbol Braced ≡ true
    → OkFrom symbol state forest
    → exit symbol (walk symbol state forest) ≡ cond (after_block symbol state or has_block (shows forest)) 0 1
unfolding ends exit has target arcs
block-walk symbol state none l b ok_from =
    let c = and-r _ _ (implies _ _ (and-r _ _ (block-state symbol state l)) b) in
    rw (or-none (after_block symbol state)) (eqb-true _ _ (implies _ _ c ok_from))
block-walk symbol state (tree ▸ forest) l b ok_from =
    let c = and-l _ _ (implies _ _ (and-r _ _ (block-state symbol state l)) b) in
    let p : ℕ = target_in (arcs symbol state) (root tree) in
    let a = kinds-at (shown (root tree)) _ (root (show tree))
    (arcs-at (arcs symbol state) (block_arc symbol state) (root tree) c ok_from.0)
    (shown-root tree ok_from.1) in
    let e : after_block symbol (p + finish tree) ≡ after_block symbol state
    or member (root (show tree)) Blocks =
    same-bool _ _ (exits-at tree
    (λ x. same (after_block symbol (p + x)) (after_block symbol state or member (root (show tree)) Blocks))
    a ok_from.1) in
    block-walk symbol (p + finish tree) forest l b ok_from.2 ∙ ap (λ (z : Bool). cond z 0 1)
    (ap (λ (z : Bool). z or has_block (shows forest)) e ∙ or-assoc _ _ _)

braced-finish : (symbol : ℕ) (forest : Forest) → Ok (node symbol forest) → member symbol Braced ≡ true
    → finish (node symbol forest) ≡ cond (has_block (shows forest)) 0 1
unfolding ◌or◌
braced-finish s forest ok b =
    let c : after_block s 0 ≡ false =
    not-c _ (and-r _ _ (kinds-at Braced (λ s. eqb (label s) s and not (after_block s 0)) s braced-checked b)) in
    block-walk s 0 forest ok.0 b ok.1 ∙ ap (λ (z : Bool). cond (z or has_block (shows forest)) 0 1) c

braced-label : (symbol : ℕ) → member (label symbol) Braced ≡ true → label symbol ≡ symbol
unfolding labels ◌and◌ ◌or◌ member
braced-label symbol m =
    eqb-true _ _ (implies _ _ (label-test (λ i v. not (member v Braced) or eqb v i) refl symbol refl) m)

lacks-finish : (tree : Tree) → Ok tree → eqb (root tree) TYPE ≡ false → LacksBlock (show tree) → finish tree ≡ 1
lacks-finish (leaf leaf_symbol text) ok e lacks_block = absurd lacks_block
lacks-finish (node symbol forest) ok e lacks_block =
    let second_lacks_block : LacksBlock (node (label symbol) (shows forest)) =
    subst (λ (z : Tree). LacksBlock z) (show-root symbol forest e) lacks_block in
    let m : member symbol Braced ≡ true =
    subst (λ (z : ℕ). member z Braced ≡ true) (braced-label symbol second_lacks_block.0) second_lacks_block.0 in
    braced-finish symbol forest ok m ∙ ap (λ (z : Bool). cond z 0 1) (block-none (shows forest) second_lacks_block.1)

no-unit : (b : Bool) → ◌≡◌ {A = ℕ} (cond b 0 1) 1 → b ≡ false
no-unit true e = absurd (omega arith)
no-unit false e = refl

pub finish-lacks : (tree : Tree) → Ok tree → eqb (root tree) TYPE ≡ false → finish tree ≡ 1 → LacksBlock (show tree)
unfolding exit
finish-lacks (leaf leaf_symbol text) ok e h = absurd (omega arith)
finish-lacks (node s forest) ok e h =
    let b : member s Braced ≡ true = implies _ _ (and-l _ _ (block-state s (walk s 0 forest) ok.0)) (rw h refl) in
    let n : label s ≡ s = eqb-true _ _
    (and-l _ _ (kinds-at Braced (λ s. eqb (label s) s and not (after_block s 0)) s braced-checked b)) in
    subst (λ (z : Tree). LacksBlock z) (sym (show-root s forest e))
    (rw n b, none-block (shows forest) (no-unit _ (sym (braced-finish s forest ok b) ∙ h)))

-- A definition leads to the second state of a document, or to the third where it lacks its block.
abbrev document_test : ℕ → ℕ → ℕ → Bool
document_test symbol child state =
    not (eqb symbol DOCUMENT) or (not (eqb child TYPE) and eqb state 1 and exits child (λ x. ltb x 2))

document-checked : every_arc document_test ≡ true
unfolding ◌and◌ ◌or◌ rows exits is_leaf
document-checked = refl

pub document-arc : (state : ℕ) (tree : Tree) → has DOCUMENT state (root tree) ≡ true → Ok tree
    → (eqb (root tree) TYPE ≡ false) × (target DOCUMENT state (root tree) ≡ 1) × (finish tree < 2)
document-arc state tree h ok =
    let c = implies _ _ (arc-test document_test document-checked DOCUMENT state (root tree) node-symbols.0 h) refl in (
      not-c _ (and-l _ _ (and-l _ _ c)),
      eqb-true _ _ (and-r _ _ (and-l _ _ c)),
      ltb-true _ _ (exits-at tree (λ x. ltb x 2) (and-r _ _ c) ok),
    )

-- After a definition that lacks its block no operation begins with a selection set.
abbrev no_selections : List (ℕ × ℕ) → Bool
no_selections l = all_arcs l (λ k q. not (member SELECTION_SET (shown k)))

abbrev query_test : ℕ → ℕ → Bool
query_test child state = not (eqb (label child) OPERATION_DEFINITION) or no_selections (arcs child 0)

queries-checked : all_arcs (arcs DOCUMENT 2) query_test ≡ true
unfolding arcs at rows shown label labels member ◌and◌ ◌or◌
queries-checked = refl

no-selections : (symbol : ℕ) (forest : Forest) → no_selections (arcs symbol 0) ≡ true → OkFrom symbol 0 forest
    → StartsWithSelections (shows forest) → ⊥
unfolding has
no-selections symbol none c ok_from h = h
no-selections symbol (tree ▸ forest) c ok_from h =
    false-true (not-c _ (arcs-at (arcs symbol 0) _ (root tree) c ok_from.0))
    (subst (λ (j : ℕ). member j (shown (root tree)) ≡ true) h (shown-root tree ok_from.1))

not-query : (tree : Tree) → Ok tree → eqb (root tree) TYPE ≡ false → has DOCUMENT 2 (root tree) ≡ true
    → IsQuery (show tree) → ⊥
unfolding has
not-query (leaf leaf_symbol text) ok e h is_query = is_query
not-query (node symbol forest) ok e h is_query =
    let second_is_query : IsQuery (node (label symbol) (shows forest)) = rw e at is_query in
    no-selections symbol forest
    (implies _ _ (arcs-at (arcs DOCUMENT 2) query_test symbol queries-checked h) (rw second_is_query.0 refl))
    ok.1 second_is_query.1

pub brace-rule : (state : ℕ) (forest : Forest) → OkFrom DOCUMENT state forest → BraceRule (shows forest)
brace-rule state none ok_from = tt
brace-rule state (tree ▸ none) ok_from = (tt, tt)
brace-rule state (tree ▸ (other_tree ▸ forest)) ok_from = (
  (λ h i.
      let a = document-arc state tree ok_from.0 ok_from.1 in
      let b = document-arc (target DOCUMENT state (root tree) + finish tree) other_tree ok_from.2.0 ok_from.2.1 in
      let g : finish tree ≡ 1 = lacks-finish tree ok_from.1 a.0 h in
      let d : target DOCUMENT state (root tree) + finish tree ≡ 2 = omega arith in
      not-query other_tree ok_from.2.1 b.0 (rw d at ok_from.2.0) i),
  brace-rule (target DOCUMENT state (root tree) + finish tree) (other_tree ▸ forest) ok_from.2,
)
