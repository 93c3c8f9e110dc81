-- A conversation: the bytes that a client sent, and those that are said to it.
use Rattle.std.specs.Prelude.{◌≡◌, ℕ, List, [], ◌∷◌, ◌++◌, Option, Some, None}
use Rattle.json.specs.Json.{Json}
use Rattle.rpc_messages.specs.Messages.{Asks, AsksForEnd}
use Rattle.rpc_messages.specs.Replies.{Replies}
use Rattle.rpc_messages.specs.declared.reply.Reply.{Reply}
use Rattle.rpc_messages.specs.declared.reply.Reply.TheVariants.{Nothing, Answer, Notification, Request, Exit}
use Rattle.rpc_serving.specs.Frames.{BeginsWithFrame, HasNoFrame, NeverHasFrame, frame_of}

-- what is said for a reply: one frame, or nothing
abbrev pub said_for : Reply → List ℕ
said_for Nothing = []
said_for (Answer body) = frame_of body.items
said_for (Notification body) = frame_of body.items
said_for (Request body) = frame_of body.items
said_for (Exit status) = []

-- the exit status, where a reply ends the conversation
abbrev pub status_of : Reply → Option ℕ
status_of Nothing = None
status_of (Answer body) = None
status_of (Notification body) = None
status_of (Request body) = None
status_of (Exit status) = Some status

-- A service in some state, the bytes that came, what is said for them, the bytes that are left, the exit status where a
-- message ended the conversation, and the service in the state that it is left in. Each message, in order, is taken by
-- the service in the state that the one before left, and has the reply that the service says: this is an answer exactly
-- where one is needed. Only the notification `exit` ends the conversation.
pub data Exchange {S : Type 0} (takes : List ℕ → S → Reply → S → Type 0) : S → List ℕ → List ℕ → List ℕ → Option ℕ
    → S → Type 0 where
  -- no message has come as a whole
  waits :
      {service : S} {bytes : List ℕ}
      → HasNoFrame bytes
      → Exchange takes service bytes [] bytes None service
  -- a message has its reply, and so has what follows
  replied :
      {old next last : S} {bytes body more said rest : List ℕ} {status : Option ℕ} (asked : Option Json) (reply : Reply)
      → BeginsWithFrame bytes body more
      → Asks body asked
      → Replies asked reply
      → status_of reply ≡ None
      → takes body old reply next
      → Exchange takes next more said rest status last
      → Exchange takes old bytes (said_for reply ++ said) rest status last
  -- the message `exit` ends the conversation
  ended :
      {old last : S} {bytes body rest : List ℕ} (asked : Option Json) (reply : Reply) (status : ℕ)
      → BeginsWithFrame bytes body rest
      → AsksForEnd body
      → Asks body asked
      → Replies asked reply
      → status_of reply ≡ Some status
      → takes body old reply last
      → Exchange takes old bytes (said_for reply) rest (Some status) last
  -- a byte is passed over, since no frame begins with it, whatever comes
  passed_over :
      {old last : S} {byte : ℕ} {bytes said rest : List ℕ} {status : Option ℕ}
      → NeverHasFrame (byte ∷ bytes)
      → Exchange takes old bytes said rest status last
      → Exchange takes old (byte ∷ bytes) said rest status last
