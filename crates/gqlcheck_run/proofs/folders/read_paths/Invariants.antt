use Rattle.std.proofs.Common.{take}
use Rattle.command_lines.specs.Words.{texts}
use Rattle.named_files.specs.Handling.{InTurn}
use Rattle.gqlcheck_run.proofs.folders.read_paths.Given as goal
use Rattle.gqlcheck_run.specs.Inputs.{as_texts}
use Rattle.gqlcheck_run.specs.Reading.{ReadsPath}

abbrev pub invariant-loop-path : goal.invariant-loop-path
invariant-loop-path g l =
    InTurn (ReadsPath g.F.Files.lists g.F.Files.omits g.F.Files.reads) (texts (take l.path-index l.paths)) l.status
    (record {
      files = l.initial.files;
      complaints = g.E.Sink.account l.initial.complaints;
      texts = as_texts l.initial.kept;
    })
    (record {
      files = l.files;
      complaints = g.E.Sink.account l.complaints;
      texts = as_texts l.kept;
    })
