use Rattle.std.proofs.Common.{◌+◌, length, map, take}
use Rattle.validation_names.specs.Names.{entry_of}
use Rattle.validation_names.specs.Sites.{as_located}
use Rattle.type_system.proofs.Picked.{picked_more}
use Rattle.type_system.proofs.RowLemmas.{rows_more}
use Rattle.type_system.proofs.parts.rows.Goals as goal
use Rattle.type_system.specs.Definitions.{items}
use Rattle.type_system.specs.Types.{is_part_of}

pub loop-site-preserved : goal.loop-site-preserved
loop-site-preserved c =
    let numbers = entry_of c.args.types.now in
    let sites = c.args.definitions.now in
    let n = c.loop-site.site-index in
    let site = c.site-item.result in
    rows_more numbers c.args.block (map as_located (take n sites)) (map as_located (take (n + 1) sites))
    (as_located site) (length sites) c.loop-site.rows.items c.add_items.new.rows.items
    (λ k. picked_more as_located sites n site c.loop-site-test.true c.site-item.is (is_part_of numbers k)
    (items c.args.block))
    c.loop-site.invariant c.in_ok-add_items.ensures
