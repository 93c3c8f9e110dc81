use Rattle.gqlcheck_run.proofs.Members.{adds_both}
use Rattle.gqlcheck_run.proofs.sarif_results.put_artifact_location.Goals as goal

pub returns : goal.returns
returns g c =
    adds_both _ _ _ _ _ c.in_ok-open_object.ensures
    (adds_both _ _ _ _ _ c.in_ok-put_text.ensures.adds c.in_ok-close_object.ensures)
