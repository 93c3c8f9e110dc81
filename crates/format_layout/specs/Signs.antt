-- The optional sign before the first of some members: `&` before an interface, `|` before a member of a union or a
-- location of a directive (GraphQL October 2021, sections 3.6, 3.8 and 3.13).
use Rattle.std.specs.Prelude.{ℕ, Bool, true, false, cond, eqb, ◌&&◌, ◌||◌, List, [], ◌∷◌, ◌++◌}
use Rattle.lexical_grammar.specs.Cut.{Word, is_significant_kind}
use Rattle.document_grammar.specs.Choices.{is_ignored}
use Rattle.document_grammar.specs.Kinds.{AMP, PIPE, IMPLEMENTS_INTERFACES, UNION_MEMBER_TYPES, DIRECTIVE_LOCATIONS}
use Rattle.document_grammar.specs.Tree.{Tree, leaf, node, Forest, none, ◌▸◌}

-- the nodes that have such members
abbrev pub has_members : ℕ → Bool
has_members k = eqb k IMPLEMENTS_INTERFACES || eqb k UNION_MEMBER_TYPES || eqb k DIRECTIVE_LOCATIONS

abbrev pub is_sign : ℕ → Bool
is_sign k = eqb k AMP || eqb k PIPE

-- their children without a sign before the first member, which is the first node
abbrev pub without_first_sign : Forest → Forest
without_first_sign none = none
without_first_sign (node k g ▸ f) = node k g ▸ f
without_first_sign (leaf k x ▸ f) = cond (is_sign k) f (leaf k x ▸ without_first_sign f)

-- the tree without these signs
abbrev mutual
  pub unsigned : Tree → Tree
  unsigned (leaf k x) = leaf k x
  unsigned (node k f) = node k (cond (has_members k) (without_first_sign (all_unsigned f)) (all_unsigned f))

  pub all_unsigned : Forest → Forest
  all_unsigned none = none
  all_unsigned (t ▸ f) = unsigned t ▸ all_unsigned f

abbrev pub is_leaf : Tree → Bool
is_leaf (leaf k x) = true
is_leaf (node k f) = false

-- For each token that the tree spells, whether it is such a sign. The tree itself is one if it is a sign `before` the
-- first member.
abbrev mutual
  pub marks : Bool → Tree → List Bool
  marks before (leaf k x) = cond (is_ignored k) [] ((before && is_sign k) ∷ [])
  marks before (node k f) = all_marks (has_members k) f

  pub all_marks : Bool → Forest → List Bool
  all_marks before none = []
  all_marks before (t ▸ f) = marks before t ++ all_marks (before && is_leaf t) f

abbrev pub signs : Tree → List Bool
signs t = marks false t

-- the words without the significant ones that are marked; a comment has no mark
abbrev pub without_marked : List Bool → List Word → List Word
without_marked marks [] = []
without_marked [] (word ∷ words) = word ∷ without_marked [] words
without_marked (mark ∷ marks) (word ∷ words) =
    cond (is_significant_kind word.kind)
    (cond mark (without_marked marks words) (word ∷ without_marked marks words))
    (word ∷ without_marked (mark ∷ marks) words)
