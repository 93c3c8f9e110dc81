use Rattle.gqlls_program.proofs.Reading.{reads_on}
use Rattle.gqlls_program.proofs.folder.FolderServer.read_folders.Goals as goal
use Rattle.gqlls_program.specs.FolderDialogues.{nothing}

pub loop-folder-init : goal.loop-folder-init
loop-folder-init g c = nothing

pub loop-folder-preserved : goal.loop-folder-preserved
loop-folder-preserved g c =
    reads_on g.F.Files.lists g.F.Files.reads g.F.Files.locates c.loop-folder.invariant c.in_ok-read_opened.ensures
