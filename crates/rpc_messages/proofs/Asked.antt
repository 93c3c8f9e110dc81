-- Which bodies need an answer, and with which id.
use Rattle.std.proofs.Common.{◌≡◌, ℕ, List, Option, Some, None, refl, ap, ◌∙◌, sym, inl, option_map}
use Rattle.std.specs.Str.{IsUtf8}
use Rattle.json.proofs.Numbered.{HasNumbers-get}
use Rattle.json.specs.Find.{get}
use Rattle.json.specs.Json.{Json, document, null}
use Rattle.json.specs.Tree.{HasNumbers}
use Rattle.rpc_messages.specs.Messages.{Asks}
use Rattle.rpc_messages.specs.Replies.{Replies}
use Rattle.rpc_messages.specs.declared.reply.Reply.{Reply}

-- the id that a message has can be written
pub id_writable : {V : Type 0} (view : V → Json) (name : List ℕ) (message : Json) (found : Option V) (id : V)
    → HasNumbers message
    → option_map view found ≡ get name message → found ≡ Some id → HasNumbers (view id)
id_writable view name message found id h e is =
    HasNumbers-get name message (view id) h (sym (ap (option_map view) is) ∙ e)

-- a body that is no JSON is refused
pub no_json_refused : (body : List ℕ) (r : Reply) → (IsUtf8 body → document body ≡ None) → Replies (Some null) r
    → (id : Option Json) × Asks body id × Replies id r
no_json_refused body r without h = (Some null, inl (without, refl), h)
