-- Tokens that are added one after the other.
use Rattle.std.proofs.Common.{[], ◌∷◌, Result}
use Rattle.json.specs.Token.{Token}
use Rattle.json.specs.Written.{Written, Writes}
use Rattle.rpc_messages.specs.Pieces.{Adds}

pub added_one : {E : Type 0} (r : Result (Unit {0}) E) (old new : Written) (t : Token) → Writes r old new t
    → Adds r old new (t ∷ [])
added_one r old new t w = record { ok = w.ok; before = w.room.0 }
