use Rattle.gqlls_program.proofs.folder.FolderServer.known_file.Goals as goal
use Rattle.gqlls_program.specs.FolderDialogues.{nothing}

pub returns-in-None : goal.returns-in-None
returns-in-None g c = nothing
