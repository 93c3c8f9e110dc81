use Rattle.std.proofs.Common.{refl}
use Rattle.gqlls_server.proofs.Maps.{updated}
use Rattle.gqlls_server.proofs.server.Server.drop_file.Goals as goal
use Rattle.gqlls_server.specs.State.{file_of, names_of}

pub returns-in-Some : goal.returns-in-Some
returns-in-Some c = record {
  files = updated file_of _ _ c.args.self.now.files c.remove.new.self _ _ refl c.remove.ensures.updates refl;
  fragments = updated names_of _ _ c.args.self.now.files c.remove.new.self _ _ refl c.remove.ensures.updates refl;
  others = refl;
}

pub returns-in-None : goal.returns-in-None
returns-in-None c = record {
  files = updated file_of _ _ c.args.self.now.files c.remove.new.self _ _ refl c.remove.ensures.updates refl;
  fragments = updated names_of _ _ c.args.self.now.files c.remove.new.self _ _ refl c.remove.ensures.updates refl;
  others = refl;
}
