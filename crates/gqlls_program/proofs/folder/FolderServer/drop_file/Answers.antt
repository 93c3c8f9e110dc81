use Rattle.std.proofs.Common.{refl}
use Rattle.gqlls_program.proofs.folder.FolderServer.drop_file.Goals as goal
use Rattle.gqlls_program.specs.FolderDialogues.{dropped, nothing}

pub returns : goal.returns
returns g c = dropped nothing refl c.drop_file-bytes.ensures
