use Rattle.std.proofs.Common.{arith, ◌<◌, ap, ◌∙◌, length, sym}
use Rattle.std.proofs.lemmas.Grind.{common_steps}
use Rattle.apollo_tree.specs.Order.{order}
use Rattle.apollo_tree.specs.References.{node_place}
use Rattle.apollo_tree.specs.Yields.{rest_nodes}
use Rattle.cost_limits.proofs.Parts.{in_range, inside-le, left_first, next_later, next_whole, left_on, left_past}
use Rattle.cost_limits.proofs.Parts.{left_none}
use Rattle.cost_limits.proofs.definition_walk.+collect.Goals as goal
use Rattle.cost_limits.specs.Collecting.{number_of}

pub loop-node-init : goal.loop-node-init
loop-node-init g t c =
    left_first c.args.introspection c.args.site.now.document (node_place c.args.site.now.node)
    (number_of c.args.fragments.now) c.args.enclosing c.args.found.now.items c.new-names.result
    (rest_nodes c.into_iter-node-iterator.result) (in_range c.args.site.now.node)
    (ap rest_nodes c.into_iter-node-iterator.ensures.into_iter_gives ∙ c.children-node-items.ensures)
    (λ s. grind (arith, common_steps))

pub inside-within-requires : goal.inside-within-requires
inside-within-requires g t c =
    let later : (node_place c.args.site.now.node).index < (node_place c.in-Some.node).index =
    next_later c.args.introspection c.args.site.now.document (node_place c.args.site.now.node)
    (number_of c.args.fragments.now) c.args.enclosing _ c.loop-node.found.items c.loop-node.names
    (node_place c.in-Some.node) (rest_nodes c.next.new.self) (rest_nodes c.loop-node.node-iterator)
    c.loop-node.invariant c.in-Some.ensures.steps in
    omega (arith, later, c.requires)

pub collect-requires : goal.collect-requires
collect-requires g t c =
    let p = node_place c.args.site.now.node in
    let q = node_place c.in-Some.node in
    let later : p.index < q.index =
    next_later c.args.introspection c.args.site.now.document p (number_of c.args.fragments.now) c.args.enclosing _
    c.loop-node.found.items c.loop-node.names
    q (rest_nodes c.next.new.self) (rest_nodes c.loop-node.node-iterator) c.loop-node.invariant
    c.in-Some.ensures.steps in
    let whole = next_whole c.args.introspection c.args.site.now.document p (number_of c.args.fragments.now)
    c.args.enclosing _ c.loop-node.found.items c.loop-node.names
    q (rest_nodes c.next.new.self) (rest_nodes c.loop-node.node-iterator) c.loop-node.invariant
    c.in-Some.ensures.steps in λ κs lives. (
      omega (arith, c.decreases, later, ap (λ w. length (order w)) whole, in_range c.in-Some.node),
      (lives, omega (arith, c.inside-within.ensures, inside-le c.args.enclosing q, later, c.requires)),
    )

-- a node that does not count
pub loop-node-preserved : goal.loop-node-preserved
loop-node-preserved g t c =
    left_past c.args.introspection c.args.site.now.document (node_place c.args.site.now.node)
    (number_of c.args.fragments.now) c.args.enclosing _ c.loop-node.found.items c.loop-node.names
    (node_place c.in-Some.node) (rest_nodes c.next.new.self) (rest_nodes c.loop-node.node-iterator)
    c.loop-node.invariant c.in-Some.ensures.steps (sym c.is_counted.ensures ∙ c.if-is_counted.false)

pub loop-node-preserved-in-Continue-branch-2 : goal.loop-node-preserved-in-Continue-branch-2
loop-node-preserved-in-Continue-branch-2 g t c =
    left_on c.args.introspection c.args.site.now.document (node_place c.args.site.now.node)
    (number_of c.args.fragments.now) c.args.enclosing _ c.loop-node.found.items c.loop-node.names
    (node_place c.in-Some.node) (rest_nodes c.next.new.self) (rest_nodes c.loop-node.node-iterator)
    c.loop-node.invariant c.in-Some.ensures.steps
    c.add.new.found.items c.collect.new.found.items c.add.new.names (sym c.is_counted.ensures ∙ c.if-is_counted.true)
    c.in_ok-add.ensures
    (cc (c.in_ok-collect.ensures, c.inside-within.ensures))

pub returns : goal.returns
returns g t c =
    left_none c.args.introspection c.args.site.now.document (node_place c.args.site.now.node)
    (number_of c.args.fragments.now) c.args.enclosing _ c.loop-node.found.items c.loop-node.names
    (rest_nodes c.loop-node.node-iterator) c.loop-node.invariant c.in-None.ensures.steps.0
