use Rattle.std.proofs.Common.{map, take}
use Rattle.validation_names.specs.Names.{entry_of}
use Rattle.validation_names.specs.Sites.{as_located}
use Rattle.type_system.proofs.Picked.{mapped_more}
use Rattle.type_system.proofs.TableLemmas.{first_more}
use Rattle.type_system.proofs.tables.first_typed.Goals as goal
use Rattle.type_system.specs.Tables.{entered_typed}
use Rattle.type_system.specs.Types.{typed}

pub loop-site-preserved : goal.loop-site-preserved
loop-site-preserved c =
    let sites = c.args.sites.now in
    let n = c.loop-site.site-index in
    rw (mapped_more as_located sites n c.site-item.result c.loop-site-test.true c.site-item.is)
    (first_more (typed (entry_of c.args.types.now)) (entered_typed c.loop-site.entries)
    (entered_typed c.enter_typed.new.entries) (map as_located (take n sites)) (as_located c.site-item.result)
    c.loop-site.invariant c.in_ok-enter_typed.ensures)
