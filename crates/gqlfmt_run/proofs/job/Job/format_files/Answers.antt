use Rattle.named_files.proofs.Turns.{in_turn-next}
use Rattle.named_files.specs.Finding.{as_named}
use Rattle.gqlfmt_run.proofs.job.Job.format_files.Goals as goal
use Rattle.gqlfmt_run.specs.Paths.{FormatsFound}

pub loop-named-preserved : goal.loop-named-preserved
loop-named-preserved g c =
    in_turn-next (FormatsFound g.F.Files.reads g.F.Files.replaces c.args.self.now.bounds c.args.self.now.mode)
    as_named c.args.found.now
    c.loop-named.named-index c.loop-named.status c.format_found-one.result c.max-status.result c.named-item.result _ _ _
    c.loop-named-test.true
    c.loop-named.invariant (rw (← c.named-item.is) c.format_found-one.ensures) c.max-status.ensures
