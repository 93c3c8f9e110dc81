use Rattle.std.proofs.Common.{refl, subst}
use Rattle.gqlls_server.proofs.Maps.{updated}
use Rattle.gqlls_server.proofs.Others.{again}
use Rattle.gqlls_server.proofs.Own.{beside}
use Rattle.gqlls_server.proofs.server.Server.publish.Goals as goal
use Rattle.gqlls_server.specs.State.{AreBeside, file_of, is_own, names_in, names_of}

pub returns-clause-publishes : goal.returns-clause-publishes
returns-clause-publishes c =
    let old = c.args.self.now.documents in
    let files_without = updated file_of _ _ old c.remove.new.self _ _ refl c.remove.ensures.updates refl in
    let names_without = updated names_of _ _ old c.remove.new.self _ _ refl c.remove.ensures.updates refl in
    let notification = c.in_ok-notification.ensures.published in
    let uri = c.args.uri.now in
    let known = c.known.result.opened.now in
    let all = subst (λ documents. AreBeside (names_in documents) (names_in c.args.self.now.files) (is_own uri documents)
    notification.0) c.known.ensures.opened
    (subst (λ files. AreBeside (names_in known) (names_in files) (is_own uri known) notification.0)
    c.known.ensures.files notification.1) in
    record {
      fragments = names_of c.args.document;
      sets = record {
        documents = again _ _ _ _ _ _ files_without c.in_ok-insert.ensures.files;
        fragments = again _ _ _ _ _ _ names_without c.in_ok-insert.ensures.names;
        files = refl;
        file_fragments = refl;
        stage = refl;
        encoding = refl;
        may_register = refl;
        takes_related = refl;
        limits = refl;
      };
      others = notification.0;
      elsewhere = beside _ _ c.remove.new.self _ c.in_ok-insert.ensures.names _ notification.0 names_without.this all;
      version = c.version_of.result;
      versioned = c.version_of.ensures;
      notification = notification.2;
    }
