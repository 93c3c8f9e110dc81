-- The reply to a message, and the new state of the service that takes it.
use Rattle.std.specs.Prelude.{◌≡◌, ◌⊎◌, ℕ, ℤ, List, Option, Some, None, codes, unwrap_or}
use lib.IntN.{pos, neg_ℤ}
use Rattle.json.specs.Find.{as_str, get}
use Rattle.json.specs.Json.{Json, null}
use Rattle.rpc_messages.specs.Messages.{IsError, IsJson, IsNoJson}
use Rattle.rpc_messages.specs.declared.reply.Reply.{Reply}
use Rattle.rpc_messages.specs.declared.reply.Reply.TheVariants.{Nothing, Answer, Notification, Request, Exit}

-- the parameters of a message: null where it has none
abbrev pub params_of : Json → Json
params_of message = unwrap_or (get (codes "params") message) null

-- the method that a message names: empty where it is no text
abbrev pub method_of : Json → List ℕ
method_of method = unwrap_or (as_str method) (codes "")

-- the reply refuses what is no message with this code, and with no id
abbrev pub IsRefusal : ℤ → Reply → Type 0
IsRefusal code Nothing = ⊥
IsRefusal code (Answer body) = (text : List ℕ) × IsError null code text body.items
IsRefusal code (Notification body) = ⊥
IsRefusal code (Request body) = ⊥
IsRefusal code (Exit status) = ⊥

-- the service, as its trait says: the step for a request (which has an id) or a notification (which has none) with this
-- method and these parameters
module _ {S : Type 0} (steps : S → Option Json → List ℕ → Json → Reply → S → Type 0) where
  -- The step for a message, by its id and its method. A response is passed over, and a message that is neither request
  -- nor notification is refused; both leave the service as it is.
  abbrev pub StepsBy : Option Json → Option Json → Json → S → Reply → S → Type 0
  StepsBy (Some id) (Some method) params old reply new = steps old (Some id) (method_of method) params reply new
  StepsBy (Some id) None params old reply new = (reply ≡ Nothing) × (new ≡ old)
  StepsBy None (Some method) params old reply new = steps old None (method_of method) params reply new
  StepsBy None None params old reply new = IsRefusal (neg_ℤ (pos 32600)) reply × (new ≡ old)

  abbrev pub StepsOn : Json → S → Reply → S → Type 0
  StepsOn message old reply new =
      StepsBy (get (codes "id") message) (get (codes "method") message) (params_of message) old reply new

  -- the step for the body of a message
  abbrev pub Takes : List ℕ → S → Reply → S → Type 0
  Takes body old reply new =
      (IsNoJson body × IsRefusal (neg_ℤ (pos 32700)) reply × (new ≡ old))
      ⊎ ((message : Json) × IsJson body message × StepsOn message old reply new)
