-- The nodes that can be cast, found by one test.
use Rattle.std.proofs.Common.{◌≡◌, List, [], ◌∷◌, Bool, refl, ap, inl, inr}
use Rattle.std.specs.List.{filter}
use Rattle.document_grammar.proofs.Booleans.{either}
use Rattle.document_grammar.specs.declared.kind.SyntaxKind.{SyntaxKind}
use Rattle.apollo_tree.specs.Children.{is_node_place}
use Rattle.apollo_tree.specs.Order.{Place, kind_at}
use Rattle.apollo_tree.specs.Taken.{takes_place}
use Rattle.apollo_cst_core.specs.Cast.{casts_at}
use Rattle.apollo_cst_core.specs.Children.{is_typed}

pub typed-children : (casts : SyntaxKind → Bool) (ps : List Place) → filter (takes_place (is_typed casts)) ps
    ≡ filter (casts_at casts) (filter is_node_place ps)
typed-children casts [] = refl
typed-children casts (p ∷ ps) = elim (either (is_node_place p)) [
  | inl n ↦ (rw n (elim (either (casts (kind_at p))) [
    | inl q ↦ (rw q (ap (λ qs. p ∷ qs) (typed-children casts ps)))
    | inr q ↦ (rw q (typed-children casts ps))
  ]))
  | inr n ↦ (rw n (typed-children casts ps))
]
