use Rattle.std.proofs.Common.{refl}
use Rattle.gqlls_program.proofs.folder.FolderServer.located.Goals as goal
use Rattle.gqlls_program.specs.FolderDialogues.{located, nothing}

pub returns : goal.returns
returns g c = located nothing c.locate.ensures refl
