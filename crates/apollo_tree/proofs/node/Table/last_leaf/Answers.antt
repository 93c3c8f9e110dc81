use Rattle.std.proofs.Common.{◌≡◌, [], ◌∷◌, ◌-◌, ◌∙◌, sym, ap, cond, true, false}
use Rattle.std.proofs.Math.Bool.{and-false}
use Rattle.std.specs.Prelude.{◌&&◌, not}
use Rattle.apollo_tree.proofs.Offsets.{last-place}
use Rattle.apollo_tree.proofs.node.Table.last_leaf.Goals as goal
use Rattle.apollo_tree.proofs.node.Table.last_leaf.Goals.{else-not-record-via-then-not-record+else-meets}
use Rattle.apollo_tree.proofs.node.Table.last_leaf.Goals.{else-not-record-via-else-not-record}
use Rattle.apollo_tree.specs.AtOffset.{is_at_offset, meets}
use Rattle.apollo_tree.specs.Below.{is_leaf_place}
use Rattle.apollo_tree.specs.Order.{range_at}
use Rattle.apollo_tree.specs.References.{table_place, table_tree}

pub returns-then-meets : goal.returns-then-meets
returns-then-meets c =
    let p = table_place c.args.self (c.args.to - 1) in
    let leaf : is_leaf_place p ≡ true = ap not (sym c.record.ensures.node) ∙ c.if-not-record.true in
    let there : meets c.args.offset (range_at p) ≡ true =
    ap (meets c.args.offset) (sym c.range.ensures) ∙ sym c.meets.ensures ∙ c.if-meets.true in
    let here : is_at_offset c.args.offset p ≡ true = ap (λ b. b && meets c.args.offset (range_at p)) leaf ∙ there in
    ap (λ b. cond b (p ∷ []) []) (sym here)
    ∙ sym (last-place (is_at_offset c.args.offset) (table_tree c.args.self) c.args.from c.args.to
    c.if-to-from.false c.requires.others)

pub returns-else-not-record : goal.returns-else-not-record
returns-else-not-record c =
    let p = table_place c.args.self (c.args.to - 1) in
    let here : is_at_offset c.args.offset p ≡ false = elim c.else-not-record.branch [
      | else-not-record-via-then-not-record+else-meets w ↦
          ap (λ b. is_leaf_place p && b)
          (ap (meets c.args.offset) (sym w.range.ensures) ∙ sym w.meets.ensures ∙ w.if-meets.false)
          ∙ and-false (is_leaf_place p)
      | else-not-record-via-else-not-record w ↦
          ap (λ b. b && meets c.args.offset (range_at p)) (ap not (sym c.record.ensures.node) ∙ w.if-not-record.false)
    ] in
    ap (λ b. cond b (p ∷ []) []) (sym here)
    ∙ sym (last-place (is_at_offset c.args.offset) (table_tree c.args.self) c.args.from c.args.to
    c.if-to-from.false c.requires.others)
