use Rattle.gqlls_program.proofs.folder.FolderServer.read_folder.Given as goal
use Rattle.gqlls_program.specs.FolderDialogues.{Reads}
use Rattle.gqlls_program.specs.State.{folder_dialogue_of}

abbrev pub invariant-loop-named : goal.invariant-loop-named
invariant-loop-named g l =
    Reads g.F.Files.lists g.F.Files.reads g.F.Files.locates (folder_dialogue_of l.fn.self) (folder_dialogue_of l.self)
