-- The levels of the nodes above a node.
use Rattle.std.proofs.Common.{◌≡◌, ℕ, zero, suc, ◌∷◌, Option, Some, None, refl, sym}
use Rattle.std.proofs.Common.{◌∙◌, ap}
use Rattle.std.proofs.lemmas.List.Elements.{All-cons, All-filter, All-nil}
use Rattle.std.proofs.lemmas.Option.{same_Some}
use Rattle.std.specs.List.{All}
use Rattle.std.specs.Prelude.{option_map}
use Rattle.document_grammar.specs.Forests.{Forest}
use Rattle.apollo_tree.proofs.Chains.{chain-step}
use Rattle.apollo_tree.specs.Above.{at_or_above}
use Rattle.apollo_tree.specs.Below.{below, places_from}
use Rattle.apollo_tree.specs.Children.{is_node_place}
use Rattle.apollo_tree.specs.Order.{Place, element, parent_place}
use Rattle.apollo_tree.specs.References.{node_place}
use Rattle.apollo_tree.specs.declared.node.SyntaxNode.{SyntaxNode}
use Rattle.validation_names.specs.Sites.{nodes}
use Rattle.type_system.specs.Types.{Types}
use Rattle.query_validation.specs.Contexts.{around, as_context, inside, step}
use Rattle.query_validation.specs.Stack.{IsLevel}
use Rattle.query_validation.specs.declared.stack.Level.{Level}

pub same_place : (a b : Place) → a.whole ≡ b.whole → a.index ≡ b.index → a ≡ b
same_place a b w i = λ k. record { whole = w k; index = i k }

-- the context inside a node that a level has the number of
pub at_level : (T : Types) (level : Level) (p : Place) → IsLevel T p.whole level → level.index ≡ p.index
    → as_context level.inside ≡ inside T (at_or_above p)
at_level T level p is index =
    is.holds
    ∙ ap (λ q. inside T (at_or_above q)) (same_place (record { whole = p.whole; index = level.index }) p refl index)

-- what holds in a node, by its parent
pub inside_step : (T : Types) (n : SyntaxNode) (up : Option SyntaxNode)
    → option_map node_place up ≡ parent_place (node_place n)
    → inside T (at_or_above (node_place n)) ≡ step T (around T (node_place n)) (node_place n)
inside_step T n None e = ap (inside T) (chain-step n None e) ∙ rw (← e) refl
inside_step T n (Some u) e = ap (inside T) (chain-step n (Some u) e) ∙ rw (← e) refl

pub level_of : (T : Types) (n : SyntaxNode) (up : Option SyntaxNode) (level : Level)
    → option_map node_place up ≡ parent_place (node_place n) → level.index ≡ (node_place n).index
    → as_context level.inside ≡ step T (around T (node_place n)) (node_place n)
    → IsLevel T (node_place n).whole level
level_of T n up level e is holds = record {
  holds = holds ∙ sym (inside_step T n up e)
      ∙ ap (λ q. inside T (at_or_above q))
      (same_place (node_place n) (record { whole = (node_place n).whole; index = level.index }) refl (sym is));
}

-- a parent is in the same tree
parent_in : (o : Option ℕ) (tree : Forest) (q : Place)
    → Some q ≡ option_map (λ i. record { whole = tree; index = i }) o → q.whole ≡ tree
parent_in None tree q e = absurd (cc)
parent_in (Some i) tree q e = ap (λ (x : Place). x.whole) (same_Some q (record { whole = tree; index = i }) e)

pub parent_whole : (p q : Place) → Some q ≡ parent_place p → q.whole ≡ p.whole
parent_whole p q e = parent_in (element p).parent p.whole q e

-- the nodes at and below a node are in its tree
places_in : (tree : Forest) (i n : ℕ) → All (λ (q : Place). q.whole ≡ tree) (places_from tree i n)
places_in tree i zero = All-nil (λ (q : Place). q.whole ≡ tree)
places_in tree i (suc n) =
    All-cons (λ (q : Place). q.whole ≡ tree) (record { whole = tree; index = i }) (places_from tree (suc i) n) refl
    (places_in tree (suc i) n)

pub nodes_in : (p : Place) → All (λ (q : Place). q.whole ≡ p.whole) (nodes p)
nodes_in p =
    All-filter is_node_place (λ (q : Place). q.whole ≡ p.whole) (p ∷ below p)
    (All-cons (λ (q : Place). q.whole ≡ p.whole) p (below p) refl (places_in p.whole _ _))
