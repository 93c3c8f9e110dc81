use Rattle.std.proofs.Common.{map, take}
use Rattle.named_files.specs.Finding.{as_named}
use Rattle.named_files.specs.Handling.{InTurn}
use Rattle.gqlcheck_run.proofs.files.read_files.Given as goal
use Rattle.gqlcheck_run.specs.Inputs.{as_texts}
use Rattle.gqlcheck_run.specs.Reading.{ReadsFound}

abbrev pub invariant-loop-named : goal.invariant-loop-named
invariant-loop-named g l =
    InTurn (ReadsFound g.F.Files.reads) (map as_named (take l.named-index l.found)) l.status
    (record {
      files = l.initial.files;
      complaints = g.E.Sink.account l.initial.complaints;
      texts = as_texts l.initial.kept;
    })
    (record {
      files = l.files;
      complaints = g.E.Sink.account l.complaints;
      texts = as_texts l.kept;
    })
