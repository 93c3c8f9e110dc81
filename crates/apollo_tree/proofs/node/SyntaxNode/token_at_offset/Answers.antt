use Rattle.std.proofs.Common.{◌≡◌, ◌+◌, ◌-◌, suc, ap, ◌∙◌, arith}
use Rattle.std.specs.List.{filter}
use Rattle.document_grammar.specs.Forests.{count}
use Rattle.apollo_tree.proofs.Spans.{children-span}
use Rattle.apollo_tree.proofs.node.SyntaxNode.token_at_offset.Goals as goal
use Rattle.apollo_tree.specs.AtOffset.{is_at_offset}
use Rattle.apollo_tree.specs.Below.{places_from}
use Rattle.apollo_tree.specs.Order.{tree_at, tree_kids}
use Rattle.apollo_tree.specs.References.{node_place}

pub overflow_add-end : goal.overflow_add-end
overflow_add-end c =
    let now = c.args.self.now in
    let span = children-span _ _ now.table.is_table now.index now.inside c.record.result.size
    (ap (λ r. r.size) c.record.ensures.value) in
    omega (arith, span.inside, c.record.ensures.len)

pub tokens_at-requires-clause-inside : goal.tokens_at-requires-clause-inside
tokens_at-requires-clause-inside c =
    let now = c.args.self.now in
    (children-span _ _ now.table.is_table now.index now.inside c.record.result.size
    (ap (λ r. r.size) c.record.ensures.value)).inside

pub returns : goal.returns
returns c =
    let now = c.args.self.now in
    let first : now.index + 1 ≡ suc now.index = omega arith in
    let number : (now.index + c.record.result.size) - (now.index + 1) ≡ count (tree_kids (tree_at (node_place now))) =
    omega (arith, c.record.ensures.size) in
    c.tokens_at.ensures
    ∙ ap (λ n. filter (is_at_offset c.args.offset) (places_from (node_place now).whole (now.index + 1) n)) number
    ∙ ap (λ i. filter (is_at_offset c.args.offset)
    (places_from (node_place now).whole i (count (tree_kids (tree_at (node_place now)))))) first
