use Rattle.std.proofs.Common.{ap, option_map, string_bytes, sym, ◌∙◌}
use Rattle.gqlls_server.proofs.Own.{adds_own}
use Rattle.gqlls_server.proofs.documents.add_own.Goals as goal

pub returns-in_ok-insert : goal.returns-in_ok-insert
returns-in_ok-insert c =
    adds_own c.args.uri.now (string_bytes c.in-Some.name) c.args.own.now c.insert.new.self
    (sym c.in_ok-name.ensures ∙ ap (option_map string_bytes) c.in-Some.is) c.in_ok-insert.ensures.updates
