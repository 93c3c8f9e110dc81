use Rattle.gqlls_program.proofs.folder.FolderServer.drop_faulty.Goals as goal
use Rattle.gqlls_program.specs.FolderDialogues.{nothing}

pub returns-else-errors-gt-MOST_ERRORS : goal.returns-else-errors-gt-MOST_ERRORS
returns-else-errors-gt-MOST_ERRORS g c = nothing
