use Rattle.gqlls_program.proofs.folder.FolderServer.update_files.Goals as goal
use Rattle.gqlls_program.specs.FolderDialogues.{nothing}

pub returns-in_default : goal.returns-in_default
returns-in_default g c = nothing
