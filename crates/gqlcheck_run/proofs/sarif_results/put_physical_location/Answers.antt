use Rattle.gqlcheck_run.proofs.Lines.{location_added}
use Rattle.gqlcheck_run.proofs.sarif_results.put_physical_location.Goals as goal

pub returns : goal.returns
returns g c = (
  c.in_ok-put_region.ensures.0,
  location_added c.args.uri.now c.args.source.now c.args.part.start c.in_ok-put_region.ensures.0 _ _ _ _ _
      c.in_ok-open_object.ensures
      c.in_ok-put_artifact_location.ensures c.in_ok-put_region.ensures.1 c.in_ok-close_object.ensures,
)
