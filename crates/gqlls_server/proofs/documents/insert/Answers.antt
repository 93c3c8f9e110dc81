use Rattle.std.proofs.Common.{refl}
use Rattle.gqlls_server.proofs.Maps.{updated}
use Rattle.gqlls_server.proofs.documents.insert.Goals as goal
use Rattle.gqlls_server.specs.State.{file_of, names_of}

pub returns-clause-files : goal.returns-clause-files
returns-clause-files c =
    updated file_of _ _ c.args.documents.now c.insert.new.self _ _ c.in_ok-name.ensures.ok
    c.in_ok-insert.ensures.updates refl

pub returns-clause-names : goal.returns-clause-names
returns-clause-names c =
    updated names_of _ _ c.args.documents.now c.insert.new.self _ _ c.in_ok-name.ensures.ok
    c.in_ok-insert.ensures.updates refl
