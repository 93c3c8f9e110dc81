use Rattle.gqlls_program.proofs.folder.FolderServer.read_folders.Given as goal
use Rattle.gqlls_program.specs.FolderDialogues.{Reads}
use Rattle.gqlls_program.specs.State.{folder_dialogue_of}

abbrev pub invariant-loop-folder : goal.invariant-loop-folder
invariant-loop-folder g l =
    Reads g.F.Files.lists g.F.Files.reads g.F.Files.locates (folder_dialogue_of l.fn.self) (folder_dialogue_of l.self)
