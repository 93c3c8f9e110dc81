use Rattle.std.proofs.Common.{map, take}
use Rattle.named_files.specs.Finding.{as_named}
use Rattle.named_files.specs.Handling.{InTurn}
use Rattle.gqlfmt_run.proofs.job.Job.format_files.Given as goal
use Rattle.gqlfmt_run.specs.Desks.{desk_of}
use Rattle.gqlfmt_run.specs.Paths.{FormatsFound}

abbrev pub invariant-loop-named : goal.invariant-loop-named
invariant-loop-named g l =
    InTurn (FormatsFound g.F.Files.reads g.F.Files.replaces l.self.bounds l.self.mode)
    (map as_named (take l.named-index l.found)) l.status
    (desk_of g.W.Sink.account g.E.Sink.account l.initial.desk) (desk_of g.W.Sink.account g.E.Sink.account l.desk)
