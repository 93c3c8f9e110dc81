use Rattle.std.proofs.Common.{take}
use Rattle.command_lines.specs.Words.{texts}
use Rattle.gqlfmt_run.proofs.job.Job.format_paths.Given as goal
use Rattle.gqlfmt_run.specs.Desks.{desk_of}
use Rattle.gqlfmt_run.specs.Folders.{HandlesPaths}

abbrev pub invariant-loop-path : goal.invariant-loop-path
invariant-loop-path g l =
    HandlesPaths g.F.Files.lists g.F.Files.omits g.F.Files.reads g.F.Files.replaces l.self.mode l.self.bounds
    (texts (take l.path-index l.paths)) l.status
    (desk_of g.W.Sink.account g.E.Sink.account l.initial.desk) (desk_of g.W.Sink.account g.E.Sink.account l.desk)
