-- The outcome of each message of a conversation, by the Language Server Protocol 3.17.
use Rattle.std.specs.Prelude.{◌≡◌, ◌≢◌, ℕ, ℤ, List, [], true, false, Option, Some, None, MatchOption, codes}
use lib.IntN.{pos, neg_ℤ}
use Rattle.json.specs.Json as json
use Rattle.json.specs.Json.{Json}
use Rattle.line_index.specs.declared.PositionEncoding.TheVariants.{Utf8}
use Rattle.rpc_messages.specs.Messages.{IsResult}
use Rattle.rpc_messages.specs.declared.reply.Reply.{Reply}
use Rattle.rpc_messages.specs.declared.reply.Reply.TheVariants.{Nothing, Answer, Notification, Request, Exit}
use Rattle.editor_diagnostics.specs.Publication.{IsNotificationAbout}
use Rattle.editor_validation.specs.Fragments.{Fragments}
use Rattle.gqlls_server.specs.Announcement.{IsAnnounced}
use Rattle.gqlls_server.specs.Diagnostics.{IsDiagnosticsNotification, Notifies}
use Rattle.gqlls_server.specs.Dialogue.{AreOthers, Dialogue, IsChanged, Sets, opened}
use Rattle.gqlls_server.specs.Files.{OpenFile}
use Rattle.gqlls_server.specs.Layout.{IsFormattingIn, IsRangeFormattingIn, IsRefusalOf}
use Rattle.gqlls_server.specs.Parameters.{Edit, IsVersionIn, Offers, asks_before_renaming_in, edits_in, host_in}
use Rattle.gqlls_server.specs.Parameters.{may_register_in, takes_related_in, text_in, uri_in}
use Rattle.gqlls_server.specs.Registration.{IsRegistration}
use Rattle.gqlls_server.specs.Renaming.{IsRenaming}
use Rattle.gqlls_server.specs.declared.server.Stage.{Stage}
use Rattle.gqlls_server.specs.declared.server.Stage.TheVariants.{New, Running, ShutDown}

-- ---- requests

-- the reply is an answer whose body is such
abbrev pub Answers : (List ℕ → Type 0) → Reply → Type 0
Answers IsSuch Nothing = ⊥
Answers IsSuch (Answer body) = IsSuch body.items
Answers IsSuch (Notification body) = ⊥
Answers IsSuch (Request body) = ⊥
Answers IsSuch (Exit status) = ⊥

-- The conversation begins, and counts columns from then on as the answer says. No client has to offer UTF-16. The
-- client says whether the server may register for the events of files, whether diagnostics may have related
-- information, and whether it asks before it changes a name.
pub record Initializes (id params : Json) (reply : Reply) (old new : Dialogue) : Type 0 where
  pub dialogue : new ≡ record old {
    stage = Running;
    encoding = new.encoding;
    may_register = may_register_in params;
    takes_related = takes_related_in params;
  }
  pub offered : new.encoding ≡ Utf8 → Offers params (codes "utf-8")
  pub announced : Answers (IsAnnounced id new.encoding (asks_before_renaming_in params)) reply

-- the answer to `shutdown`, after which only `exit` is handled
pub record ShutsDown (id : Json) (reply : Reply) (old new : Dialogue) : Type 0 where
  pub dialogue : new ≡ record old { stage = ShutDown }
  pub answered : Answers (IsResult id json.null) reply

-- the request is refused with this code, and changes nothing
pub record IsRefused (id : Json) (code : ℤ) (reply : Reply) (old new : Dialogue) : Type 0 where
  pub dialogue : new ≡ old
  pub refusal : Answers (IsRefusalOf id code) reply

-- the body refuses the request for want of a document: `InvalidParams`
abbrev pub LacksDocument : Json → List ℕ → Type 0
LacksDocument id body = IsRefusalOf id (neg_ℤ (pos 32602)) body

-- `textDocument/formatting`: the body has the layout of the document that the message names; it is null where that
-- isn't open, and refuses where none is named
abbrev pub Formats : Json → Json → Dialogue → List ℕ → Type 0
Formats id params dialogue body =
    MatchOption (uri_in params) (LacksDocument id body)
    (λ uri. MatchOption (dialogue.documents uri) (IsResult id json.null body)
    (λ file. IsFormattingIn dialogue.limits id file body))

-- `textDocument/rangeFormatting`: the body has the layout of a part of that document
abbrev pub FormatsRange : Json → Json → Dialogue → List ℕ → Type 0
FormatsRange id params dialogue body =
    MatchOption (uri_in params) (LacksDocument id body)
    (λ uri. MatchOption (dialogue.documents uri) (IsResult id json.null body)
    (λ file. IsRangeFormattingIn dialogue.limits id file body))

-- `textDocument/rename`: the body has edits that give what is at a position another name, in that document and all
-- others
abbrev pub Renames : Json → Json → Dialogue → List ℕ → Type 0
Renames id params dialogue body =
    MatchOption (uri_in params) (LacksDocument id body)
    (λ uri. MatchOption (dialogue.documents uri) (IsResult id json.null body)
    (λ file. IsRenaming dialogue.documents dialogue.files id params uri file body))

-- The outcome of a request, by the stage and the method: the conversation begins, or the request is refused as
-- `ServerNotInitialized`; it is shut down; or nothing changes, a layout is the document's, or a part's, and a name is
-- changed in all documents. After that each request is refused as `InvalidRequest`.
pub record HandlesRequest (id : Json) (method : List ℕ) (params : Json) (reply : Reply)
    (old new : Dialogue) : Type 0 where
  pub initialize : old.stage ≡ New → method ≡ codes "initialize" → Initializes id params reply old new
  pub too_early : old.stage ≡ New → method ≢ codes "initialize" → IsRefused id (neg_ℤ (pos 32002)) reply old new
  pub shutdown : old.stage ≡ Running → method ≡ codes "shutdown" → ShutsDown id reply old new
  pub others : old.stage ≡ Running → method ≢ codes "shutdown" → new ≡ old
  pub formatting : old.stage ≡ Running → method ≡ codes "textDocument/formatting"
      → Answers (Formats id params old) reply
  pub range_formatting : old.stage ≡ Running → method ≡ codes "textDocument/rangeFormatting"
      → Answers (FormatsRange id params old) reply
  pub renaming : old.stage ≡ Running → method ≡ codes "textDocument/rename" → Answers (Renames id params old) reply
  pub too_late : old.stage ≡ ShutDown → IsRefused id (neg_ℤ (pos 32600)) reply old new

-- ---- notifications

-- no reply, and no change
pub record IsIgnored (reply : Reply) (old new : Dialogue) : Type 0 where
  pub silence : reply ≡ Nothing
  pub dialogue : new ≡ old

-- the reply is a request whose body is such
abbrev pub Requests : (List ℕ → Type 0) → Reply → Type 0
Requests IsSuch Nothing = ⊥
Requests IsSuch (Answer body) = ⊥
Requests IsSuch (Notification body) = ⊥
Requests IsSuch (Request body) = IsSuch body.items
Requests IsSuch (Exit status) = ⊥

-- `initialized`: the server registers for the events of files, if it may
pub record Begins (reply : Reply) (old new : Dialogue) : Type 0 where
  pub registers : old.may_register ≡ true → Requests IsRegistration reply
  pub silence : old.may_register ≡ false → reply ≡ Nothing
  pub dialogue : new ≡ old

-- A document is this file now. The reply publishes its errors, with the version that the message gives, by the
-- fragments of all others and of the files.
pub record Publishes (uri : List ℕ) (file : OpenFile) (params : Json) (reply : Reply)
    (old new : Dialogue) : Type 0 where
  pub fragments : Fragments
  pub sets : Sets uri (Some file) (Some fragments) old new
  pub others : List Fragments
  pub elsewhere : AreOthers uri new.fragments new.file_fragments others
  pub version : Option ℤ
  pub versioned : IsVersionIn params version
  pub notification : Notifies (IsDiagnosticsNotification old.takes_related uri version file fragments others) reply

-- `textDocument/didOpen`: the document has the text and the language of the message. Without a name or a text the
-- message is ignored.
abbrev pub Opens : Json → Reply → Dialogue → Dialogue → Type 0
Opens params reply old new =
    MatchOption (uri_in params) (IsIgnored reply old new)
    (λ uri. MatchOption (text_in params) (IsIgnored reply old new)
    (λ text. Publishes uri (opened old text (host_in params)) params reply old new))

-- an open document has some changes now
pub record PublishesChanges (uri : List ℕ) (edits : List Edit) (before : OpenFile) (params : Json) (reply : Reply)
    (old new : Dialogue) : Type 0 where
  pub after : OpenFile
  pub changed : IsChanged edits before after
  pub publishes : Publishes uri after params reply old new

-- `textDocument/didChange`: the document has the changes of the message. Where it isn't open, or a change isn't one of
-- the protocol, the message is ignored.
abbrev pub Changes : Json → Reply → Dialogue → Dialogue → Type 0
Changes params reply old new =
    MatchOption (uri_in params) (IsIgnored reply old new)
    (λ uri. MatchOption (edits_in params) (IsIgnored reply old new)
    (λ edits. MatchOption (old.documents uri) (IsIgnored reply old new)
    (λ before. PublishesChanges uri edits before params reply old new)))

-- a document isn't open any more, and its errors are taken back
pub record Withdraws (uri : List ℕ) (reply : Reply) (old new : Dialogue) : Type 0 where
  pub sets : Sets uri None None old new
  pub notification : Notifies (IsNotificationAbout uri None []) reply

-- `textDocument/didClose`: where the document isn't open, the message is ignored
abbrev pub Closes : Json → Reply → Dialogue → Dialogue → Type 0
Closes params reply old new =
    MatchOption (uri_in params) (IsIgnored reply old new)
    (λ uri. MatchOption (old.documents uri) (IsIgnored reply old new) (λ file. Withdraws uri reply old new))

-- success only after `shutdown`
abbrev pub exit_status : Stage → ℕ
exit_status New = 1
exit_status Running = 1
exit_status ShutDown = 0

-- the notification ends the conversation
pub record Exits (reply : Reply) (old new : Dialogue) : Type 0 where
  pub exit : reply ≡ Exit (exit_status old.stage)
  pub dialogue : new ≡ old

-- a notification of any other method
pub record IsOther (method : List ℕ) : Type 0 where
  pub no_exit : method ≢ codes "exit"
  pub no_begin : method ≢ codes "initialized"
  pub no_open : method ≢ codes "textDocument/didOpen"
  pub no_change : method ≢ codes "textDocument/didChange"
  pub no_close : method ≢ codes "textDocument/didClose"

-- The outcome of a notification. Unless the conversation is running, only `exit` is handled.
pub record HandlesNotification (method : List ℕ) (params : Json) (reply : Reply) (old new : Dialogue) : Type 0 where
  pub exits : method ≡ codes "exit" → Exits reply old new
  pub begins : old.stage ≡ Running → method ≡ codes "initialized" → Begins reply old new
  pub opens : old.stage ≡ Running → method ≡ codes "textDocument/didOpen" → Opens params reply old new
  pub changes : old.stage ≡ Running → method ≡ codes "textDocument/didChange" → Changes params reply old new
  pub closes : old.stage ≡ Running → method ≡ codes "textDocument/didClose" → Closes params reply old new
  pub others : IsOther method → IsIgnored reply old new
  pub not_running : old.stage ≢ Running → method ≢ codes "exit" → IsIgnored reply old new

-- ---- both

-- the outcome of a request, which has an id, or of a notification
abbrev pub Steps : Dialogue → Option Json → List ℕ → Json → Reply → Dialogue → Type 0
Steps old (Some id) method params reply new = HandlesRequest id method params reply old new
Steps old None method params reply new = HandlesNotification method params reply old new
