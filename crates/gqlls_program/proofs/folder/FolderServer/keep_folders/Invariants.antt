use Rattle.std.proofs.Common.{◌≡◌}
use Rattle.gqlls_program.proofs.folder.FolderServer.keep_folders.Given as goal
use Rattle.gqlls_program.specs.State.{folder_dialogue_of}

abbrev pub invariant-loop-uri : goal.invariant-loop-uri
invariant-loop-uri g l = folder_dialogue_of l.self ≡ folder_dialogue_of l.fn.self
