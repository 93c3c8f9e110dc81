use Rattle.std.proofs.Common.{[]}
use Rattle.named_files.proofs.Turns.{in_turn-next}
use Rattle.gqlcheck_run.proofs.folders.read_paths.Goals as goal
use Rattle.gqlcheck_run.specs.Reading.{ReadsPath}

pub loop-path-preserved : goal.loop-path-preserved
loop-path-preserved g c =
    in_turn-next (ReadsPath g.F.Files.lists g.F.Files.omits g.F.Files.reads) (λ p. p.now) c.args.paths.now
    c.loop-path.path-index c.loop-path.status c.read_path-one.result c.max-status.result
    (record { ref_ptr = (0, 0); now = [] }) _ _ _
    c.loop-path-test.true c.loop-path.invariant c.read_path-one.ensures c.max-status.ensures
