use Rattle.std.proofs.Common.{◌-◌, ◌++◌, suc, ap, sym, ◌∙◌, arith}
use Rattle.std.proofs.lemmas.List.{append-nil}
use Rattle.std.specs.List.{filter}
use Rattle.std.specs.Option.{option_to_list}
use Rattle.std.specs.Prelude.{option_map}
use Rattle.apollo_tree.proofs.Offsets.{no-earlier, no-later, no-places, filter-split}
use Rattle.apollo_tree.proofs.node.Table.tokens_at.Goals as goal
use Rattle.apollo_tree.specs.AtOffset.{is_at_offset}
use Rattle.apollo_tree.specs.Below.{places_from}
use Rattle.apollo_tree.specs.References.{table_tree, table_place, token_place}

pub last_leaf-requires-clause-others : goal.last_leaf-requires-clause-others
last_leaf-requires-clause-others c = λ k a b.
    no-earlier _ _ c.args.self.is_table k c.args.offset (omega arith)
    (λ some. c.first_from-here.ensures.before (suc k) (omega arith) (omega arith))

pub last_leaf-requires-2-clause-others : goal.last_leaf-requires-2-clause-others
last_leaf-requires-2-clause-others c = λ k a b.
    no-earlier _ _ c.args.self.is_table k c.args.offset (omega arith)
    (λ some. absurd (omega (
      arith,
      c.first_from-here.ensures.after k (omega arith) (omega arith),
      c.first_after-next.ensures.before (suc k) (omega arith) (omega arith),
    )))

pub returns : goal.returns
returns c =
    let m = is_at_offset c.args.offset in
    let whole = table_tree c.args.self in
    let here = c.first_from-here.result in
    let next = c.first_after-next.result in
    let none = no-places m whole next c.args.to (λ k a b. no-later c.args.offset (table_place c.args.self k)
    (omega (arith, c.first_after-next.ensures.after k a b))) in
    c.new.ensures
    ∙ ap (λ ps. ps ++ option_to_list (option_map token_place c.last_leaf-2.result)) c.last_leaf.ensures
    ∙ ap (λ ps. filter m (places_from whole c.args.from (here - c.args.from)) ++ ps)
    (c.last_leaf-2.ensures ∙ sym (append-nil _)
    ∙ ap (λ ps. filter m (places_from whole here (next - here)) ++ ps) (sym none)
    ∙ sym (filter-split m whole here next c.args.to (omega arith) (omega arith)))
    ∙ sym (filter-split m whole c.args.from here c.args.to (omega arith) (omega arith))
