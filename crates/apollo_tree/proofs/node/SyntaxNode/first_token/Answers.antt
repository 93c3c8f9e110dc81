use Rattle.std.proofs.Common.{◌≡◌, ◌+◌, ◌-◌, suc, false, ap, sym, ◌∙◌, arith}
use Rattle.std.specs.List.{find}
use Rattle.std.specs.Prelude.{not}
use Rattle.document_grammar.specs.Forests.{count}
use Rattle.apollo_tree.proofs.Finds.{find-pass-one}
use Rattle.apollo_tree.proofs.Parts.{spot}
use Rattle.apollo_tree.proofs.Spans.{children-span}
use Rattle.apollo_tree.proofs.node.SyntaxNode.first_token.Goals as goal
use Rattle.apollo_tree.specs.Below.{places_from, is_leaf_place}
use Rattle.apollo_tree.specs.Children.{is_node_place}
use Rattle.apollo_tree.specs.Order.{tree_at, tree_kids}
use Rattle.apollo_tree.specs.References.{node_place}

pub overflow_add-end : goal.overflow_add-end
overflow_add-end c =
    let now = c.args.self.now in
    let span = children-span _ _ now.table.is_table now.index now.inside c.record.result.size
    (ap (λ r. r.size) c.record.ensures.value) in
    omega (arith, span.inside, c.record.ensures.len)

pub loop-index-init : goal.loop-index-init
loop-index-init c =
    let now = c.args.self.now in
    let whole = (node_place now).whole in
    let size = c.record.result.size in
    let span = children-span _ _ now.table.is_table now.index now.inside size
    (ap (λ r. r.size) c.record.ensures.value) in
    let first : now.index + 1 ≡ suc now.index = omega arith in
    let number : (now.index + size) - (now.index + 1) ≡ count (tree_kids (tree_at (node_place now))) =
    omega (arith, c.record.ensures.size) in
    record {
      inside = span.inside;
      rest =
          ap (λ n. find is_leaf_place (places_from whole (now.index + 1) n)) number
          ∙ ap (λ i. find is_leaf_place (places_from whole i (count (tree_kids (tree_at (node_place now)))))) first;
    }

pub loop-index-preserved : goal.loop-index-preserved
loop-index-preserved c =
    let now = c.args.self.now in
    let whole = (node_place now).whole in
    let node : not (is_node_place (spot whole c.loop-index.index)) ≡ false =
    ap not (sym c.record-in-loop-index.ensures.node) ∙ c.if-not-record.false in
    record {
      inside = c.loop-index.invariant.inside;
      rest = sym (find-pass-one is_leaf_place whole c.loop-index.index (now.index + c.record.result.size)
          c.loop-index-test.true node)
          ∙ c.loop-index.invariant.rest;
    }
