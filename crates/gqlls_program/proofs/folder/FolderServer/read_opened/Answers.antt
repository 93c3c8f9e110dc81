use Rattle.gqlls_program.proofs.Reading.{reads_on}
use Rattle.gqlls_program.proofs.folder.FolderServer.read_opened.Goals as goal

pub returns : goal.returns
returns g c = reads_on g.F.Files.lists g.F.Files.reads g.F.Files.locates c.located.ensures c.in_ok-read_folder.ensures
