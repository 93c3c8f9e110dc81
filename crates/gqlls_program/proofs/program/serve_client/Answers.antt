use Rattle.std.proofs.Common.{◌≡◌, ap, ◌∙◌}
use Rattle.std.proofs.lemmas.Result.{IfErr-weaker, IfOk-weaker}
use Rattle.apollo_parser.specs.declared.Limits.{Limits}
use Rattle.rpc_serving.proofs.Views.{fails_of, served_of}
use Rattle.gqlls_server.specs.Dialogue.{Dialogue, initial_dialogue}
use Rattle.gqlls_server.specs.State.{dialogue_of}
use Rattle.gqlls_server.specs.declared.server.Server.{Server}
use Rattle.gqlls_program.proofs.program.serve_client.Goals as goal
use Rattle.gqlls_program.specs.FolderDialogues.{Steps, opening}
use Rattle.gqlls_program.specs.State.{folder_dialogue_of}
use Rattle.gqlls_program.specs.declared.folder.FolderServer.{FolderServer}

opens : {F : Type 0} (limits : Limits) (files : F) (server : Server) (service : FolderServer F)
    → dialogue_of server ≡ initial_dialogue limits
    → folder_dialogue_of service ≡ record { dialogue = dialogue_of server; files = files }
    → folder_dialogue_of service ≡ opening limits files
opens limits files server service begins is =
    is ∙ ap (λ (dialogue : Dialogue). record { dialogue = dialogue; files = files }) begins

pub returns-clause-ok : goal.returns-clause-ok
returns-clause-ok g c =
    IfOk-weaker c.serve.result _ _ (λ status served. record {
      last = folder_dialogue_of c.serve.new.service;
      served =
          served_of folder_dialogue_of (Steps g.F.Files.lists g.F.Files.reads g.F.Files.locates) _ _ _ _ _ _ _
          (opens _ _ c.new.result c.new-server.result c.new.ensures c.new-server.ensures) status served;
    })
    c.serve.ensures.ok

pub returns-clause-err : goal.returns-clause-err
returns-clause-err g c =
    IfErr-weaker c.serve.result _ _ (λ fault ends. record {
      last = folder_dialogue_of c.serve.new.service;
      ends =
          fails_of folder_dialogue_of (Steps g.F.Files.lists g.F.Files.reads g.F.Files.locates) _ _ _ _ _ _ _
          (opens _ _ c.new.result c.new-server.result c.new.ensures c.new-server.ensures) fault ends;
    })
    c.serve.ensures.err
