use Rattle.std.proofs.Common.{subst}
use Rattle.named_files.specs.Finding.{Lists}
use Rattle.gqlls_program.proofs.Reading.{reads_lists, reads_on, within}
use Rattle.gqlls_program.proofs.folder.FolderServer.read_folder.Goals as goal
use Rattle.gqlls_program.specs.State.{folder_dialogue_of}

pub loop-named-init : goal.loop-named-init
loop-named-init g c =
    reads_lists g.F.Files.lists g.F.Files.reads g.F.Files.locates (folder_dialogue_of c.args.self.now) _
    (subst (λ (files : g.row.F.Denot). Lists g.F.Files.lists files c.named_files.new.files.files) c.begin.ensures
    (within g.F.Files.lists _ _ c.named_files.ensures.lists))

pub loop-named-preserved : goal.loop-named-preserved
loop-named-preserved g c =
    reads_on g.F.Files.lists g.F.Files.reads g.F.Files.locates c.loop-named.invariant c.in_ok-refresh.ensures
