use Rattle.std.proofs.Common.{map, take}
use Rattle.validation_names.specs.Sites.{as_located}
use Rattle.type_system.proofs.Picked.{mapped_more}
use Rattle.type_system.proofs.TableLemmas.{first_site_more}
use Rattle.type_system.proofs.tables.first_by_name.Goals as goal
use Rattle.type_system.specs.Schemas.{entered_site}

pub loop-site-preserved : goal.loop-site-preserved
loop-site-preserved c =
    let sites = c.args.sites.now in
    let n = c.loop-site.site-index in
    rw (mapped_more as_located sites n c.site-item.result c.loop-site-test.true c.site-item.is)
    (first_site_more (entered_site c.loop-site.entries) (entered_site c.enter_site.new.entries)
    (map as_located (take n sites)) (as_located c.site-item.result) c.loop-site.invariant c.in_ok-enter_site.ensures)
