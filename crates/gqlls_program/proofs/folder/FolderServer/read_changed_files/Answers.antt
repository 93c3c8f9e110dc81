use Rattle.gqlls_program.proofs.Reading.{reads_on}
use Rattle.gqlls_program.proofs.folder.FolderServer.read_changed_files.Goals as goal
use Rattle.gqlls_program.specs.FolderDialogues.{nothing}

pub loop-uri-init : goal.loop-uri-init
loop-uri-init g c = nothing

pub loop-uri-preserved : goal.loop-uri-preserved
loop-uri-preserved g c =
    reads_on g.F.Files.lists g.F.Files.reads g.F.Files.locates c.loop-uri.invariant c.in_ok-read_changed_file.ensures
