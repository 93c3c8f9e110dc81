-- The documents beside one that is published.
use Rattle.std.proofs.Common.{ℕ, Bool, List, Option, None, ◌∙◌, subst}
use Rattle.json.specs.Json.{Json}
use Rattle.rpc_messages.specs.declared.reply.Reply.{Reply}
use Rattle.gqlls_server.specs.Conversation.{Publishes}
use Rattle.gqlls_server.specs.Diagnostics.{IsDiagnosticsNotification, Notifies}
use Rattle.gqlls_server.specs.Dialogue.{Dialogue, Sets, Updates}
use Rattle.gqlls_server.specs.Files.{OpenFile}

-- a change after another at the same name
pub again : {A : Type 0} (uri : List ℕ) (first second : Option A) (old middle new : List ℕ → Option A)
    → Updates uri first old middle
    → Updates uri second middle new → Updates uri second old new
again uri first second old middle new one two = record {
  this = two.this;
  others = λ name apart. two.others name apart ∙ one.others name apart;
}

-- a document is taken out, and published anew
pub publishes_again : (uri : List ℕ) (file : OpenFile) (params : Json) (reply : Reply) (old middle new : Dialogue)
    → Sets uri None None old middle
    → Publishes uri file params reply middle new → Publishes uri file params reply old new
publishes_again uri file params reply old middle new takes published = record {
  fragments = published.fragments;
  sets = record {
    documents = again uri _ _ _ _ _ takes.documents published.sets.documents;
    fragments = again uri _ _ _ _ _ takes.fragments published.sets.fragments;
    files = published.sets.files ∙ takes.files;
    file_fragments = published.sets.file_fragments ∙ takes.file_fragments;
    stage = published.sets.stage ∙ takes.stage;
    encoding = published.sets.encoding ∙ takes.encoding;
    may_register = published.sets.may_register ∙ takes.may_register;
    takes_related = published.sets.takes_related ∙ takes.takes_related;
    limits = published.sets.limits ∙ takes.limits;
  };
  others = published.others;
  elsewhere = published.elsewhere;
  version = published.version;
  versioned = published.versioned;
  notification =
      subst (λ (related : Bool). Notifies
      (IsDiagnosticsNotification related uri published.version file published.fragments published.others) reply)
      takes.takes_related
      published.notification;
}
