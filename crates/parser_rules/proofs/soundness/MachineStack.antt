-- The open nodes of the builder and those of the machine: the machine's node of a type has none in the builder but a
-- NON_NULL_TYPE.
use Rattle.std.proofs.Common.{◌≡◌, ℕ, ◌+◌, true, false, cond, eqb, List, [], ◌∷◌, refl, sym, ap, ap₂, ◌∙◌, subst, inl}
use Rattle.std.proofs.Common.{inr, eqb-true, add-zero, arith}
use Rattle.document_grammar.proofs.Added.{wrap-added}
use Rattle.document_grammar.proofs.Booleans.{false-true, or-c, either}
use Rattle.document_grammar.specs.Booleans.{◌and◌, ◌or◌}
use Rattle.document_grammar.specs.Builds.{Building, built_count, wrap}
use Rattle.document_grammar.specs.Forests as built
use Rattle.document_grammar.specs.Kinds.{BANG, NAMED_TYPE, LIST_TYPE, NON_NULL_TYPE}
use Rattle.document_grammar.specs.Tree.{Text, Tree, leaf, node, Forest, none, ◌▸◌, ◌+++◌, root}
use Rattle.document_grammar.specs.declared.kind.SyntaxKind.TheVariants as kind
use Rattle.grammar_machine.proofs.Checks.{exits, row_of}
use Rattle.grammar_machine.proofs.FromMachineTree.{show, shows, type_of}
use Rattle.grammar_machine.proofs.Patterns.{label}
use Rattle.grammar_machine.proofs.TableLemmas.{exits-at, head-same}
use Rattle.grammar_machine.specs.Machine.{is_leaf, at, arcs, has, target, Frame, frame, Path, finish as leaves_behind}
use Rattle.grammar_machine.specs.Symbols.{TYPE}
use Rattle.grammar_machine.specs.Table.{rows}
use Rattle.parser_rules.proofs.soundness.WithoutIgnored.{IsLayered, Stack, stack, layers, layers-join, strip, put}

-- ---- lists of trees

pub assoc : (forest more_trees last_trees : Forest)
    → (forest +++ more_trees) +++ last_trees ≡ forest +++ (more_trees +++ last_trees)
assoc none more_trees last_trees = refl
assoc (tree ▸ forest) more_trees last_trees = ap (λ (z : Forest). tree ▸ z) (assoc forest more_trees last_trees)

cancel : (forest more_trees last_trees : Forest) → forest +++ more_trees ≡ forest +++ last_trees
    → more_trees ≡ last_trees
cancel none more_trees last_trees e = e
cancel (tree ▸ forest) more_trees last_trees e = let i : forest +++ more_trees ≡ forest +++ last_trees = cc in
    cancel forest more_trees last_trees i

pub shows-snoc : (forest : Forest) (tree : Tree)
    → shows (forest +++ (tree ▸ none)) ≡ shows forest +++ (show tree ▸ none)
shows-snoc none tree = refl
shows-snoc (other_tree ▸ forest) tree = ap (λ (z : Forest). show other_tree ▸ z) (shows-snoc forest tree)

-- ---- the image

abbrev pub lay : ℕ → Forest → Stack → Stack
lay s forest this_stack = cond (eqb s TYPE) (put forest this_stack) ((label s, forest) ∷ this_stack)

abbrev pub image : List Frame → Stack
image [] = (0, none) ∷ []
image (frame s q forest ∷ fs) = lay s (shows forest) (image fs)

put-put : (forest more_trees : Forest) (this_stack : Stack)
    → put (forest +++ more_trees) this_stack ≡ put more_trees (put forest this_stack)
put-put forest more_trees [] = refl
put-put forest more_trees (a ∷ this_stack) =
    ap (λ (z : Forest). (a.0, z) ∷ this_stack) (sym (assoc a.1 forest more_trees))

pub lay-put : (s : ℕ) (forest more_trees : Forest) (this_stack : Stack)
    → lay s (forest +++ more_trees) this_stack ≡ put more_trees (lay s forest this_stack)
lay-put s forest more_trees this_stack =
    elim (either (eqb s TYPE)) [ inl p ↦ rw p (put-put forest more_trees this_stack) | inr p ↦ rw p refl ]

put-some : (forest : Forest) (this_stack : Stack) → IsLayered this_stack → IsLayered (put forest this_stack)
put-some forest [] is_layered = is_layered
put-some forest (a ∷ this_stack) is_layered = is_layered

pub image-some : (fs : List Frame) → IsLayered (image fs)
image-some [] = tt
image-some (frame s q forest ∷ fs) =
    elim (either (eqb s TYPE)) [ inl p ↦ rw p (put-some (shows forest) (image fs) (image-some fs)) | inr p ↦ rw p tt ]

-- a tree more
pub put-image : (s q p : ℕ) (forest : Forest) (tree : Tree) (fs : List Frame)
    → put (show tree ▸ none) (image (frame s q forest ∷ fs)) ≡ image (frame s p (forest +++ (tree ▸ none)) ∷ fs)
put-image s q p forest tree fs =
    sym (ap (λ (z : Forest). lay s z (image fs)) (shows-snoc forest tree)
    ∙ lay-put s (shows forest) (show tree ▸ none) (image fs))

-- a node that is no type
pub image-node : (j q : ℕ) (forest : Forest) (fs : List Frame) → eqb j TYPE ≡ false
    → image (frame j q forest ∷ fs) ≡ (label j, shows forest) ∷ image fs
image-node j q forest fs e = rw e refl

-- ---- a type

type-exits : (exits BANG (λ e. eqb e 0) ≡ true) × (exits NAMED_TYPE (λ e. eqb e 0) ≡ true)
    × (exits LIST_TYPE (λ e. eqb e 0) ≡ true)
unfolding exits ◌and◌ ◌or◌ is_leaf row_of rows
type-exits = (refl, refl, refl)

no-more : (forest : Forest) → Path TYPE 2 forest 1 → ⊥
unfolding has target arcs at rows
no-more none path = let e : ◌≡◌ {A = ℕ} 2 1 = path in absurd (omega arith)
no-more (tree ▸ forest) path = false-true refl path.0

-- the first child of a type has no exit of its own
first-child : (k p : ℕ) (tree : Tree) (forest : Forest) → eqb k (root tree) ≡ true → exits k (λ e. eqb e 0) ≡ true
    → Path TYPE p (tree ▸ forest) 1
    → Path TYPE (target TYPE p k) forest 1
first-child k p tree forest e x path =
    let i : k ≡ root tree = eqb-true k (root tree) e in
    let z : leaves_behind tree ≡ 0 =
    eqb-true _ _ (exits-at tree (λ n. eqb n 0) (subst (λ (n : ℕ). exits n (λ e. eqb e 0) ≡ true) i x) path.1) in
    subst (λ (n : ℕ). Path TYPE n forest 1)
    (ap₂ (λ (a b : ℕ). target TYPE p a + b) (sym i) z ∙ add-zero (target TYPE p k)) path.2

type-over : (forest : Forest) → Path TYPE 1 forest 1 → forest ≡ none
unfolding has target arcs at rows ◌or◌
type-over none path = refl
type-over (tree ▸ forest) path = elim (or-c (eqb BANG (root tree)) false path.0) [
  | inl e ↦ absurd
      (no-more forest (first-child BANG 1 tree forest e type-exits.0 path))
  | inr e ↦ false-true refl e
]

-- one tree without `!`
pub one-type : (forest : Forest) → Path TYPE 0 forest 1 → (tree : Tree) × (forest ≡ tree ▸ none)
unfolding has target arcs at rows ◌or◌
one-type none path = let e : ◌≡◌ {A = ℕ} 0 1 = path in absurd (omega arith)
one-type (tree ▸ forest) path = elim (or-c (eqb NAMED_TYPE (root tree)) (eqb LIST_TYPE (root tree) or false) path.0) [
  | inl e ↦ (
    tree,
    ap (λ (g : Forest). tree ▸ g)
        (type-over forest (first-child NAMED_TYPE 0 tree forest e type-exits.1 path)),
  )
  | inr i ↦ elim (or-c (eqb LIST_TYPE (root tree)) false i) [
    | inl e ↦ (
      tree,
      ap (λ (g : Forest). tree ▸ g)
          (type-over forest (first-child LIST_TYPE 0 tree forest e type-exits.2 path)),
    )
    | inr e ↦ false-true refl e
  ]
]

-- its tree is the type's
pub image-plain : (s q p : ℕ) (forest more_trees : Forest) (fs : List Frame) → Path TYPE 0 more_trees 1
    → image (frame TYPE 1 more_trees ∷ frame s q forest ∷ fs)
    ≡ put (show (node TYPE more_trees) ▸ none) (image (frame s q forest ∷ fs))
image-plain s q p forest more_trees fs path =
    let o = one-type more_trees path in
    ap (λ (z : Forest). put z (image (frame s q forest ∷ fs)))
    (ap shows o.1 ∙ sym (ap (λ (z : Forest). show (node TYPE z) ▸ none) o.1))

pub show-bang : (forest : Forest) (text : Text) → Path TYPE 0 forest 1
    → show (node TYPE (forest +++ (leaf BANG text ▸ none)))
    ≡ node NON_NULL_TYPE (shows (forest +++ (leaf BANG text ▸ none)))
show-bang forest text path =
    let o = one-type forest path in
    subst (λ (z : Forest). type_of (shows (z +++ (leaf BANG text ▸ none)))
    ≡ node NON_NULL_TYPE (shows (z +++ (leaf BANG text ▸ none)))) (sym o.1) refl

-- ---- what was added since a place

-- it is what the type's node holds
added-type : (s q q' : ℕ) (forest more_trees : Forest) (fs : List Frame) (building later_building : Building)
    (more : built.Forest) → eqb s TYPE ≡ false
    → later_building.above ≡ building.above → later_building.here ≡ built.join building.here more
    → stack building ≡ image (frame s q forest ∷ fs)
    → stack later_building ≡ image (frame TYPE q' more_trees ∷ frame s q forest ∷ fs)
    → strip more ≡ shows more_trees
added-type s q q' forest more_trees fs building later_building more ty a h st su =
    let n = image-node s q forest fs ty in
    let e : put (strip more) ((label s, shows forest) ∷ image fs)
    ≡ put (shows more_trees) ((label s, shows forest) ∷ image fs) =
    ap (put (strip more)) (sym n)
    ∙ (ap (put (strip more)) (sym st) ∙ (sym (layers-join building.here more building.above)
    ∙ (sym (ap₂ layers h a) ∙ (su ∙ ap (put (shows more_trees)) n)))) in
    cancel (shows forest) (strip more) (shows more_trees) (ap (λ (l : ℕ × Forest). l.1) (head-same e))

pub stack-wrap : (s q q' : ℕ) (forest more_trees : Forest) (fs : List Frame) (building later_building : Building)
    (more : built.Forest) → eqb s TYPE ≡ false
    → later_building.above ≡ building.above → later_building.here ≡ built.join building.here more
    → stack building ≡ image (frame s q forest ∷ fs)
    → stack later_building ≡ image (frame TYPE q' more_trees ∷ frame s q forest ∷ fs)
    → stack (wrap (built_count building) kind.NON_NULL_TYPE later_building) ≡ (NON_NULL_TYPE, shows more_trees)
    ∷ image (frame s q forest ∷ fs)
stack-wrap s q q' forest more_trees fs building later_building more ty a h st su =
    ap stack (wrap-added kind.NON_NULL_TYPE building later_building more a h)
    ∙ ap₂ (λ (x : Forest) (this_stack : Stack). (NON_NULL_TYPE, x) ∷ this_stack)
    (added-type s q q' forest more_trees fs building later_building more ty a h st su) st
