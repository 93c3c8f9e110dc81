use Rattle.std.proofs.Common.{[], ◌∷◌, ◌++◌, Some, ◌∙◌}
use Rattle.std.proofs.lemmas.List.Elements.{All-pop, All-push, All-same}
use Rattle.apollo_tree.specs.References.{node_place}
use Rattle.type_system.specs.Schemas.{types}
use Rattle.query_validation.proofs.StackLemmas.{at_level}
use Rattle.query_validation.proofs.stack.inside_parent.Goals as goal
use Rattle.query_validation.specs.Stack.{IsLevel}

pub returns-then-level-index-clause-levels : goal.returns-then-level-index-clause-levels
returns-then-level-index-clause-levels c =
    let P = IsLevel (types c.args.schema.now) (node_place c.args.parent.now).whole in
    let level = c.in-Some.level in
    let rest = c.pop.new.self.items in
    let popped = All-pop P c.levels.stack.items rest (Some level) c.in-Some.ensures.items c.levels.invariant in
    All-same P c.push.new.self.items (rest ++ level ∷ []) c.in_ok-push.ensures.items
    (All-push P rest level popped.0 popped.1)

pub returns-then-level-index-clause-context : goal.returns-then-level-index-clause-context
returns-then-level-index-clause-context c =
    let T = types c.args.schema.now in
    let parent = node_place c.args.parent.now in
    let level = c.in-Some.level in
    let popped =
    All-pop (IsLevel T parent.whole) c.levels.stack.items c.pop.new.self.items (Some level) c.in-Some.ensures.items
    c.levels.invariant in
    at_level T level parent popped.1 (c.if-level-index.true ∙ c.index.ensures)

pub levels-preserved : goal.levels-preserved
levels-preserved c =
    let P = IsLevel (types c.args.schema.now) (node_place c.args.parent.now).whole in
    let popped =
    All-pop P c.levels.stack.items c.pop.new.self.items (Some c.in-Some.level) c.in-Some.ensures.items
    c.levels.invariant in
    popped.0
