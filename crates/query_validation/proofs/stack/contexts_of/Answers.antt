use Rattle.std.proofs.Common.{[], ◌∷◌, ◌++◌, ap, ◌∙◌}
use Rattle.std.proofs.lemmas.List.Elements.{All-push, All-same}
use Rattle.apollo_tree.specs.References.{node_place}
use Rattle.type_system.specs.Schemas.{types}
use Rattle.query_validation.proofs.StackLemmas.{level_of}
use Rattle.query_validation.proofs.stack.contexts_of.Goals as goal
use Rattle.query_validation.specs.Contexts.{step}
use Rattle.query_validation.specs.Stack.{IsLevel}
use Rattle.query_validation.specs.declared.stack.Level.{Level}

pub returns-in_err-push-clause-levels : goal.returns-in_err-push-clause-levels
returns-in_err-push-clause-levels c =
    All-same (IsLevel (types c.args.schema.now) (node_place c.args.node.now).whole) c.push.new.self.items
    c.around.new.stack.items c.in_err-push.ensures.items c.in_ok-around.ensures.levels

pub returns-clause-inside : goal.returns-clause-inside
returns-clause-inside c =
    c.step-inside.ensures
    ∙ ap (λ a. step (types c.args.schema.now) a (node_place c.args.node.now)) c.in_ok-around.ensures.context

pub returns-clause-levels : goal.returns-clause-levels
returns-clause-levels c =
    let T = types c.args.schema.now in
    let node = c.args.node.now in
    let P = IsLevel T (node_place node).whole in
    let before = c.around.new.stack.items in
    let level : Level = record { index = c.index-index.result; inside = c.step-inside.result } in
    let holds =
    c.step-inside.ensures ∙ ap (λ a. step T a (node_place node)) c.in_ok-around.ensures.context in
    All-same P c.push.new.self.items (before ++ level ∷ []) c.in_ok-push.ensures.items
    (All-push P before level c.in_ok-around.ensures.levels
    (level_of T node c.parent-parent.result level c.parent-parent.ensures c.index-index.ensures holds))
