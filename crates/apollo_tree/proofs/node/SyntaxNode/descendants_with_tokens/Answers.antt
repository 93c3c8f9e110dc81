use Rattle.std.proofs.Common.{◌≡◌, ◌+◌, ◌-◌, suc, ap, arith}
use Rattle.document_grammar.specs.Forests.{count}
use Rattle.apollo_tree.proofs.Spans.{children-span}
use Rattle.apollo_tree.proofs.node.SyntaxNode.descendants_with_tokens.Goals as goal
use Rattle.apollo_tree.specs.Below.{places_from}
use Rattle.apollo_tree.specs.Order.{tree_at, tree_kids}
use Rattle.apollo_tree.specs.References.{node_place}

pub overflow_add-result : goal.overflow_add-result
overflow_add-result c =
    let now = c.args.self.now in
    let span = children-span _ _ now.table.is_table now.index now.inside c.record.result.size
    (ap (λ r. r.size) c.record.ensures.value) in
    omega (arith, span.inside, c.record.ensures.len)

pub invariant_of-result : goal.invariant_of-result
invariant_of-result c =
    let now = c.args.self.now in
    let span = children-span _ _ now.table.is_table now.index now.inside c.record.result.size
    (ap (λ r. r.size) c.record.ensures.value) in
    record { order = omega arith; inside = span.inside }

pub returns : goal.returns
returns c =
    let now = c.args.self.now in
    let number : (now.index + c.record.result.size) - now.index ≡ suc (count (tree_kids (tree_at (node_place now)))) =
    omega (arith, c.record.ensures.size) in
    ap (places_from (node_place now).whole now.index) number
