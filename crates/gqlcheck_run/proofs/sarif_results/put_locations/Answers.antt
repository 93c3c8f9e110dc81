use Rattle.gqlcheck_run.proofs.Lines.{locations_added}
use Rattle.gqlcheck_run.proofs.sarif_results.put_locations.Goals as goal

pub returns : goal.returns
returns g c = (
  c.in_ok-put_physical_location.ensures.0,
  locations_added c.args.uri.now c.args.source.now c.args.part.start c.in_ok-put_physical_location.ensures.0 _ _ _ _
      c.in_ok-open_list.ensures
      c.in_ok-put_physical_location.ensures.1 c.in_ok-close_list.ensures,
)
