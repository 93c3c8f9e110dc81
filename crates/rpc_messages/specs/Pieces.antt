-- Which tokens of JSON a piece is.
use Rattle.std.specs.Fmt.{signed_decimal}
use Rattle.std.specs.Prelude.{◌≡◌, List, [], ◌∷◌, ◌++◌, ℕ, map, decimal, OnOk, Result}
use Rattle.json.specs.Token as json
use Rattle.json.specs.Written.{Written}
use Rattle.rpc_messages.specs.declared.pieces.Piece.{Piece}
use Rattle.rpc_messages.specs.declared.pieces.Piece.TheVariants.{Object, EndObject, Array, EndArray, Key, Text, Count}
use Rattle.rpc_messages.specs.declared.pieces.Piece.TheVariants.{Number, Flag, Null, Counts}

abbrev pub number_token : ℕ → json.Token
number_token n = json.number (decimal n)

-- a list of numbers
abbrev pub list_tokens : List ℕ → List json.Token
list_tokens counts = json.begin_array ∷ (map number_token counts ++ json.end_array ∷ [])

abbrev pub tokens_of : Piece → List json.Token
tokens_of Object = json.begin_object ∷ []
tokens_of EndObject = json.end_object ∷ []
tokens_of Array = json.begin_array ∷ []
tokens_of EndArray = json.end_array ∷ []
tokens_of (Key name) = json.key name.now ∷ []
tokens_of (Text text) = json.string text.now ∷ []
tokens_of (Count count) = number_token count ∷ []
tokens_of (Number number) = json.number (signed_decimal number) ∷ []
tokens_of (Flag flag) = json.boolean flag ∷ []
tokens_of Null = json.null ∷ []
tokens_of (Counts counts) = list_tokens counts.now

-- the tokens are appended, and what the writer held before stays
pub record Adds {E : Type 0} (r : Result (Unit {0}) E) (old new : Written) (ts : List json.Token) : Type 0 where
  pub ok : OnOk r (new.tokens ≡ old.tokens ++ ts)
  pub before : new.before ≡ old.before
