use Rattle.gqlls_program.proofs.folder.FolderServer.read_changed_files.Given as goal
use Rattle.gqlls_program.specs.FolderDialogues.{Reads}
use Rattle.gqlls_program.specs.State.{folder_dialogue_of}

abbrev pub invariant-loop-uri : goal.invariant-loop-uri
invariant-loop-uri g l =
    Reads g.F.Files.lists g.F.Files.reads g.F.Files.locates (folder_dialogue_of l.fn.self) (folder_dialogue_of l.self)
