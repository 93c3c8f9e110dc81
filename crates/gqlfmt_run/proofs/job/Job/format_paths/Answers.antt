use Rattle.std.proofs.Common.{[]}
use Rattle.named_files.proofs.Turns.{in_turn-next}
use Rattle.gqlfmt_run.proofs.job.Job.format_paths.Goals as goal
use Rattle.gqlfmt_run.specs.Folders.{HandlesPath}

pub loop-path-preserved : goal.loop-path-preserved
loop-path-preserved g c =
    in_turn-next
    (HandlesPath g.F.Files.lists g.F.Files.omits g.F.Files.reads g.F.Files.replaces c.args.self.now.mode
    c.args.self.now.bounds) (λ p. p.now)
    c.args.paths.now c.loop-path.path-index c.loop-path.status c.format_unless_left_out-one.result c.max-status.result
    (record { ref_ptr = (0, 0); now = [] }) _ _ _
    c.loop-path-test.true c.loop-path.invariant c.format_unless_left_out-one.ensures c.max-status.ensures
