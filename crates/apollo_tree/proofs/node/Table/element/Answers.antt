use Rattle.std.proofs.Common.{◌≡◌, ◌∙◌, ap, sym, arith}
use Rattle.apollo_tree.proofs.Parents.{no-index, some-parent}
use Rattle.apollo_tree.proofs.Places.{end-is}
use Rattle.apollo_tree.proofs.Spans.{children-span}
use Rattle.apollo_tree.proofs.node.Table.element.Goals as goal
use Rattle.apollo_tree.proofs.node.Table.element.Goals.{in-0, in_default}
use Rattle.apollo_tree.specs.Order.{element}
use Rattle.apollo_tree.specs.References.{table_place}
use Rattle.apollo_tree.specs.declared.record.Record.{Record}

pub overflow_add-after_subtree : goal.overflow_add-after_subtree
overflow_add-after_subtree c =
    let span = children-span _ _ c.args.self.is_table c.args.index c.requires c.record-record.result.size
    (ap (λ (r : Record). r.size) c.record-record.ensures.value) in
    omega (arith, span.inside, c.record-record.ensures.len)

pub overflow_sub-parent : goal.overflow_sub-parent
overflow_sub-parent c =
    let up = ap (λ (r : Record). r.to_parent) c.record-record.ensures.value in
    let p = some-parent _ _ c.args.self.is_table _ c.requires c.record-record.result.to_parent up (omega arith) in
    omega (arith, p.inside)

pub returns : goal.returns
returns c =
    let table = c.args.self.is_table in
    let end = c.start_from-end.ensures ∙ end-is _ _ table c.args.index c.requires _ c.record-record.result.size
    (ap (λ (r : Record). r.size) c.record-record.ensures.value) in
    let up = ap (λ (r : Record). r.to_parent) c.record-record.ensures.value in
    let parent : c.match-record.parent ≡ (element (table_place c.args.self c.args.index)).parent =
    elim c.match-record.branch [
      | in-0 w ↦ w.parent-is ∙ sym (no-index _ _ table _ c.requires c.record-record.result.to_parent up (omega arith))
      | in_default w ↦ w.parent-is
          ∙ sym (some-parent _ _ table _ c.requires c.record-record.result.to_parent up (omega arith)).index
    ] in
    cc (
      c.record-record.ensures.kind,
      c.record-record.ensures.node,
      c.record-record.ensures.start,
      c.record-record.ensures.size,
      end,
      parent,
    )
