use Rattle.named_files.proofs.Turns.{in_turn-next}
use Rattle.named_files.specs.Finding.{as_named}
use Rattle.gqlcheck_run.proofs.files.read_files.Goals as goal
use Rattle.gqlcheck_run.specs.Reading.{ReadsFound}

pub loop-named-preserved : goal.loop-named-preserved
loop-named-preserved g c =
    in_turn-next (ReadsFound g.F.Files.reads) as_named c.args.found.now c.loop-named.named-index c.loop-named.status
    c.read_found-one.result c.max-status.result c.named-item.result _ _ _ c.loop-named-test.true c.loop-named.invariant
    (rw (← c.named-item.is) c.read_found-one.ensures) c.max-status.ensures
