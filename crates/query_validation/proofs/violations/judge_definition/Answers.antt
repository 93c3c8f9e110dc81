use Rattle.std.proofs.Common.{◌≡◌, [], ◌++◌, ◌∷◌, map, take, sym, ap, ◌∙◌, subst}
use Rattle.std.proofs.lemmas.List.Elements.{All-head, All-nil, All-rest, All-same}
use Rattle.std.specs.List.{All, flat_map}
use Rattle.document_grammar.specs.Forests.{Forest}
use Rattle.apollo_tree.specs.Order.{Place}
use Rattle.apollo_tree.specs.References.{node_place}
use Rattle.apollo_tree.specs.Yields.{rest_descendant_nodes}
use Rattle.validation_names.specs.Sites.{as_located, located, nodes}
use Rattle.type_system.specs.Schemas.{types}
use Rattle.query_validation.proofs.ListedLemmas.{listed_more}
use Rattle.query_validation.proofs.RepeatLemmas.{no_table}
use Rattle.query_validation.proofs.StackLemmas.{nodes_in}
use Rattle.query_validation.proofs.violations.judge_definition.Goals as goal
use Rattle.query_validation.specs.Breaches.{as_breach, breaches_at, breaches_in, definition_breaches}
use Rattle.query_validation.specs.Contexts.{around, as_context}
use Rattle.query_validation.specs.Repeats.{IsTable}
use Rattle.query_validation.specs.Stack.{IsLevel}

pub loop-node-init : goal.loop-node-init
loop-node-init c =
    let definition = c.args.definition.now in
    let p = node_place definition.node in
    let T = types c.args.schema.now in
    let rest = rest_descendant_nodes c.into_iter-node-iterator.result in
    let all : rest ≡ nodes p =
    ap rest_descendant_nodes c.into_iter-node-iterator.ensures.into_iter_gives ∙ c.descendants-node-items.ensures in
    record {
      listed =
          ap
          (λ ps. take c.args.most (map as_breach c.args.found.now.items
          ++ flat_map (breaches_at T) (map (located definition.document) ps)))
          all;
      levels = All-same (IsLevel T p.whole) c.new-stack.result.items [] c.new-stack.ensures.items
          (All-nil (IsLevel T p.whole));
      table = no_table definition.document p.whole c.empty_table-table.result c.empty_table-table.ensures;
      tree = All-same (λ (q : Place). q.whole ≡ p.whole) rest (nodes p) all (nodes_in p);
    }

pub contexts_of-requires : goal.contexts_of-requires
contexts_of-requires c =
    let tree = (node_place c.args.definition.now.node).whole in
    let node = node_place c.in-Some.node in
    let rest = rest_descendant_nodes c.next.new.self in
    let steps = c.in-Some.ensures.steps in
    let same : node.whole ≡ tree =
    All-head (λ (q : Place). q.whole ≡ tree) node rest
    (All-same (λ (q : Place). q.whole ≡ tree) (node ∷ rest) (rest_descendant_nodes c.loop-node.node-iterator)
    (sym steps) c.loop-node.invariant.tree) in
    subst (λ (w : Forest). All (IsLevel (types c.args.schema.now) w) c.loop-node.stack.items) (sym same)
    c.loop-node.invariant.levels

pub is_repeat-requires : goal.is_repeat-requires
is_repeat-requires c =
    let definition = c.args.definition.now in
    let tree = (node_place definition.node).whole in
    let node = node_place c.in-Some.node in
    let rest = rest_descendant_nodes c.next.new.self in
    let same : node.whole ≡ tree =
    All-head (λ (q : Place). q.whole ≡ tree) node rest
    (All-same (λ (q : Place). q.whole ≡ tree) (node ∷ rest) (rest_descendant_nodes c.loop-node.node-iterator)
    (sym c.in-Some.ensures.steps) c.loop-node.invariant.tree) in
    subst (λ (w : Forest). IsTable definition.document w c.loop-node.table) (sym same) c.loop-node.invariant.table

pub loop-node-preserved : goal.loop-node-preserved
loop-node-preserved c =
    let T = types c.args.schema.now in
    let document = c.args.definition.now.document in
    let tree = (node_place c.args.definition.now.node).whole in
    let node = node_place c.in-Some.node in
    let before = rest_descendant_nodes c.loop-node.node-iterator in
    let rest = rest_descendant_nodes c.next.new.self in
    let steps = c.in-Some.ensures.steps in
    let old = map as_breach c.loop-node.found.items in
    let new = map as_breach c.judge_node.new.found.items in
    let contexts = c.in_ok-contexts.contexts in
    let site = located document node in
    let same : node.whole ≡ tree =
    All-head (λ (q : Place). q.whole ≡ tree) node rest
    (All-same (λ (q : Place). q.whole ≡ tree) (node ∷ rest) before (sym steps) c.loop-node.invariant.tree) in
    let adds : new ≡ old ++ breaches_at T site =
    c.in_ok-judge_node.ensures
    ∙ ap (λ a. old ++ breaches_in T a (as_context contexts.inside) site) c.in_ok-contexts.ensures.around
    ∙ ap (λ a. old ++ breaches_in T (around T node) a site) c.in_ok-contexts.ensures.inside in
    record {
      listed =
          listed_more (breaches_at T) c.args.most old new
          (take c.args.most (map as_breach c.args.found.now.items
          ++ definition_breaches T (as_located c.args.definition.now)))
          site (map (located document) rest) (map (located document) before) (ap (map (located document)) steps)
          c.loop-node.invariant.listed adds;
      levels = subst (λ (w : Forest). All (IsLevel T w) c.contexts_of.new.stack.items) same
          c.in_ok-contexts.ensures.levels;
      table = subst (λ (w : Forest). IsTable document w c.is_repeat.new.table) same c.in_ok-repeats.ensures.table;
      tree = All-rest (λ (q : Place). q.whole ≡ tree) node rest before steps c.loop-node.invariant.tree;
    }
