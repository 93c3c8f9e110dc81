-- What a reply may be.
use Rattle.std.specs.Prelude.{◌≡◌, ⊤, Option, Some, None}
use Rattle.json.specs.Json.{Json}
use Rattle.rpc_messages.specs.Messages.{IsAnswer, IsNotification, IsRequest}
use Rattle.rpc_messages.specs.declared.reply.Reply.{Reply}
use Rattle.rpc_messages.specs.declared.reply.Reply.TheVariants.{Nothing, Answer, Notification, Request, Exit}

-- The reply to a message that needs an answer with this id, or none. There is an answer exactly where one is needed,
-- and it has that id.
abbrev pub Replies : Option Json → Reply → Type 0
Replies asked Nothing = asked ≡ None
Replies asked (Answer body) = (id : Json) × (asked ≡ Some id) × IsAnswer id body.items
Replies asked (Notification body) = (asked ≡ None) × IsNotification body.items
Replies asked (Request body) = (asked ≡ None) × IsRequest body.items
Replies asked (Exit status) = asked ≡ None

-- the reply ends the conversation only where this holds
abbrev pub EndsOnlyIf : Type 0 → Reply → Type 0
EndsOnlyIf asked Nothing = ⊤
EndsOnlyIf asked (Answer body) = ⊤
EndsOnlyIf asked (Notification body) = ⊤
EndsOnlyIf asked (Request body) = ⊤
EndsOnlyIf asked (Exit status) = asked
