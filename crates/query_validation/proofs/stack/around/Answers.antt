use Rattle.std.proofs.Common.{◌≡◌, Some, sym, ap, ◌∙◌, subst}
use Rattle.std.specs.List.{All}
use Rattle.std.specs.Prelude.{option_map}
use Rattle.document_grammar.specs.Forests.{Forest}
use Rattle.apollo_tree.specs.Order.{parent_place}
use Rattle.apollo_tree.specs.References.{node_place}
use Rattle.type_system.specs.Schemas.{types}
use Rattle.query_validation.proofs.StackLemmas.{parent_whole}
use Rattle.query_validation.proofs.stack.around.Goals as goal
use Rattle.query_validation.specs.Stack.{IsLevel}

pub returns-in-Some-clause-levels : goal.returns-in-Some-clause-levels
returns-in-Some-clause-levels c =
    let node = node_place c.args.node.now in
    let parent = node_place c.in-Some.parent in
    let is : Some parent ≡ parent_place node = ap (option_map node_place) (sym c.in-Some.is) ∙ c.requires.parent in
    subst (λ (w : Forest). All (IsLevel (types c.args.schema.now) w) c.inside_parent.new.stack.items)
    (parent_whole node parent is) c.inside_parent.ensures.levels

pub inside_parent-requires : goal.inside_parent-requires
inside_parent-requires c =
    let node = node_place c.args.node.now in
    let parent = node_place c.in-Some.parent in
    let is : Some parent ≡ parent_place node = ap (option_map node_place) (sym c.in-Some.is) ∙ c.requires.parent in
    subst (λ (w : Forest). All (IsLevel (types c.args.schema.now) w) c.args.stack.now.items)
    (sym (parent_whole node parent is)) c.requires.levels
