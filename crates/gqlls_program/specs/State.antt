-- What a server keeps of a conversation in which files are read.
use Rattle.gqlls_server.specs.State.{dialogue_of}
use Rattle.gqlls_program.specs.FolderDialogues.{FolderDialogue}
use Rattle.gqlls_program.specs.declared.folder.FolderServer.{FolderServer}

abbrev pub folder_dialogue_of : {F : Type 0} → FolderServer F → FolderDialogue F
folder_dialogue_of service = record { dialogue = dialogue_of service.server; files = service.files.files }
