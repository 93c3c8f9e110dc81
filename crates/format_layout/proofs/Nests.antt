-- A tree that is alike but for the spelling of block strings nests as deep.
use Rattle.std.proofs.Common.{◌≡◌, ℕ, ◌+◌, refl, sym, ap, ◌∙◌}
use Rattle.std.specs.Prelude.{max}
use Rattle.document_grammar.specs.Derivation.{counts, below, belows, nest}
use Rattle.document_grammar.specs.Kinds.{DOCUMENT}
use Rattle.document_grammar.specs.Tree.{Tree, leaf, node, Forest, none, ◌▸◌, root}
use Rattle.format_layout.proofs.Derivations.{alike-root}
use Rattle.format_layout.specs.Respelled.{Alike, AllAlike}

mutual
  alike-below : (t u : Tree) → Alike t u → below u ≡ below t
  alike-below (leaf k x) (leaf j y) a = refl
  alike-below (leaf k x) (node j g) a = absurd a
  alike-below (node k f) (leaf j y) a = absurd a
  alike-below (node k f) (node j g) a = ap (λ n. belows n g) (sym a.0) ∙ alike-belows k f g a.1

  alike-belows : (k : ℕ) (f g : Forest) → AllAlike f g → belows k g ≡ belows k f
  alike-belows k none none a = refl
  alike-belows k none (u ▸ g) a = absurd a
  alike-belows k (t ▸ f) none a = absurd a
  alike-belows k (t ▸ f) (u ▸ g) a =
      ap (λ n. max (counts k n + below u) (belows k g)) (alike-root t u a.0)
      ∙ ap (λ n. max (counts k (root t) + n) (belows k g)) (alike-below t u a.0)
      ∙ ap (λ n. max (counts k (root t) + below t) n) (alike-belows k f g a.1)

pub alike-nest : (t u : Tree) → Alike t u → nest u ≡ nest t
alike-nest t u a = ap (λ n. counts DOCUMENT n + below u) (alike-root t u a)
    ∙ ap (λ n. counts DOCUMENT (root t) + n) (alike-below t u a)
