use Rattle.std.proofs.Common.{refl}
use Rattle.gqlfmt_run.proofs.FolderLemmas.{formats-paths}
use Rattle.gqlfmt_run.proofs.job.Job.format.Goals as goal

pub returns-in_default : goal.returns-in_default
returns-in_default g c =
    formats-paths g.F.Files.lists g.F.Files.omits g.F.Files.reads g.F.Files.replaces c.args.self.now.mode
    c.args.self.now.bounds c.args.name.now
    c.args.paths.now c.format_paths.result _ _ c.in_default.len_at_least c.format_paths.ensures refl
