use Rattle.std.proofs.Common.{◌≡◌, ◌∙◌, List, [], ◌∷◌, ◌++◌, map, take, get_or, ap, sym, arith}
use Rattle.std.proofs.lemmas.List.{map_more, map_push, take_all}
use Rattle.validation_names.specs.Sites.{as_located}
use Rattle.validation_names.specs.declared.executables.ExecutableDefinition.{ExecutableDefinition}
use Rattle.cost_figures.specs.declared.items.Item.{Item}
use Rattle.cost_limits.proofs.Lists.{items_are}
use Rattle.cost_limits.proofs.measures.all_items.Goals as goal
use Rattle.cost_limits.specs.Collecting.{number_of}
use Rattle.cost_limits.specs.Items.{definition_items}

pub loop-definition-preserved : goal.loop-definition-preserved
loop-definition-preserved g c =
    let ds = c.args.definitions.now in
    let i = c.loop-definition.definition-index in
    let items_at : ExecutableDefinition → List Item =
    λ d. definition_items c.args.introspection (number_of c.args.fragments.now) (as_located d.site) in
    let is : c.in_ok-items.field-0.items ≡ items_at (get_or ds i c.definition-item.result) =
    c.in_ok-items.ensures ∙ ap items_at c.definition-item.is in
    ap (map (λ items. items.items)) c.in_ok-push.ensures.items
    ∙ map_push (λ items. items.items) c.loop-definition.found.items c.in_ok-items.field-0
    ∙ ap (λ (xs : List (List Item)). xs ++ c.in_ok-items.field-0.items ∷ []) c.loop-definition.invariant
    ∙ ap (λ (xs : List Item). map items_at (take i ds) ++ xs ∷ []) is
    ∙ sym (map_more items_at ds i c.definition-item.result c.loop-definition-test.true)

pub returns : goal.returns
returns g c =
    let all : take c.loop-definition.definition-index c.args.definitions.now ≡ c.args.definitions.now =
    take_all c.loop-definition.definition-index c.args.definitions.now (omega (arith, c.loop-definition-test.false)) in
    c.loop-definition.invariant
    ∙ ap (map (λ d. definition_items c.args.introspection (number_of c.args.fragments.now) (as_located d.site))) all
    ∙ items_are c.args.introspection c.args.fragments.now c.args.definitions.now c.requires
