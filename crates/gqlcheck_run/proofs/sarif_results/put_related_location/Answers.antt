use Rattle.std.specs.Prelude.{codes}
use Rattle.gqlcheck_run.proofs.Members.{both, in_list, of_member}
use Rattle.gqlcheck_run.proofs.sarif_results.put_related_location.Goals as goal
use Rattle.gqlcheck_run.specs.SarifResults.{physical_location}

pub returns : goal.returns
returns g c =
    in_list _ _ _ _ _ c.in_ok-open_list.ensures
    (both _ _ _ (of_member (codes "physicalLocation")
    (physical_location c.args.uri.now c.args.source.now c.part_between-part.result.start
    c.in_ok-put_physical_location.ensures.0) _ _
    c.in_ok-put_physical_location.ensures.1) c.in_ok-put_message.ensures) c.in_ok-close_list.ensures
