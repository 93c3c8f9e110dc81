use Rattle.gqlcheck_run.proofs.Lines.{region_added}
use Rattle.gqlcheck_run.proofs.sarif_results.put_region.Goals as goal

pub returns : goal.returns
returns g c =
    region_added c.args.source.now c.args.part.start _ _ _ _ _ _ c.in_ok-open_object.ensures
    (rw c.line_of.ensures at c.in_ok-put_number.ensures.adds)
    (rw c.column_of.ensures at c.in_ok-put_number-2.ensures.adds) c.in_ok-put_extent.ensures
    c.in_ok-close_object.ensures
